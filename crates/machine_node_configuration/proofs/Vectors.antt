-- Requests with what W-202 and ISO 14229-8's tables have for them, by computation.
use Prim.Native.Nat.{ℕ, ◌-◌}
use mathlib.Core.Path.{◌≡◌, refl}
use mathlib.Core.List.{List, [], ◌∷◌, ◌++◌}
use lib.ListN.{length, replicate}
use Rattle.machine_node_configuration.specs.declared.Identity.{Identity}
use Rattle.machine_node_configuration.specs.Requests.{is_assign, is_read, wrong_length, is_known, request_refusal, is_for, takes_assign}
use Rattle.machine_node_configuration.specs.Responses.{response_to, address_after, configure_refusal, configured, responded}

-- a node from the moulding line, its address blank
abbrev node : Identity
node = record { supplier = 0x0123; function = 0x4567; variant = 0x89; serial = 0x01020304 }

-- a request and a buffer's room; refusal, response and address after it
record Vector : Type 0 where
  request : List ℕ
  room : ℕ
  refusal : ℕ
  response : List ℕ
  address : ℕ

-- the reply is so, and the buffer, which held AA hex throughout, has the response and keeps the rest
abbrev VectorHolds : Vector → Type 0
VectorHolds v =
    (configured node 0 v.request v.room ≡ record { refusal = v.refusal; length = length v.response; address = v.address })
    × (responded node v.request (replicate v.room 0xaa) ≡ v.response ++ replicate (v.room - length v.response) 0xaa)

abbrev AllVectorsHold : List Vector → Type 0
AllVectorsHold [] = Unit {0}
AllVectorsHold (v ∷ vectors) = VectorHolds v × AllVectorsHold vectors

abbrev responds : List ℕ → ℕ → List ℕ → ℕ → Vector
responds request room response address = record { request = request; room = room; refusal = 0; response = response; address = address }

abbrev keeps : List ℕ → ℕ → ℕ → Vector
keeps request room refusal = record { request = request; room = room; refusal = refusal; response = []; address = 0 }

-- the low bytes of supplier and function, and the new address
abbrev assign : ℕ → ℕ → ℕ → List ℕ
assign supplier function address = 0x2e ∷ 0xff ∷ 0x07 ∷ 0x01 ∷ supplier ∷ 0x45 ∷ function ∷ address ∷ []

abbrev vectors : List Vector
vectors =
    responds (assign 0x23 0x67 0x41) 3 (0x6e ∷ 0xff ∷ 0x07 ∷ []) 0x41
    ∷ responds (assign 0x23 0x67 0x7d) 5 (0x6e ∷ 0xff ∷ 0x07 ∷ []) 0x7d
    ∷ responds (0x22 ∷ 0xff ∷ 0x05 ∷ []) 8 (0x62 ∷ 0xff ∷ 0x05 ∷ 0x01 ∷ 0x23 ∷ 0x45 ∷ 0x67 ∷ 0x89 ∷ []) 0
    ∷ responds (0x22 ∷ 0xf1 ∷ 0x8c ∷ []) 7 (0x62 ∷ 0xf1 ∷ 0x8c ∷ 0x01 ∷ 0x02 ∷ 0x03 ∷ 0x04 ∷ []) 0
    -- silence
    ∷ keeps (assign 0x23 0x67 0x00) 3 0
    ∷ keeps (assign 0x23 0x67 0x7e) 3 0
    ∷ keeps (assign 0x22 0x67 0x41) 0 0
    ∷ keeps (assign 0x23 0x66 0x41) 3 0
    -- refused
    ∷ keeps [] 8 23
    ∷ keeps (0x2e ∷ 0xff ∷ 0x03 ∷ 0x00 ∷ []) 8 23
    ∷ keeps (0x22 ∷ 0xff ∷ 0x04 ∷ []) 8 24
    ∷ keeps (assign 0x23 0x67 0x41) 2 10
    ∷ []

pub vectors_hold : AllVectorsHold vectors
unfolding configured responded configure_refusal request_refusal response_to address_after takes_assign is_for is_known wrong_length is_assign is_read
vectors_hold = ((refl, refl), ((refl, refl), ((refl, refl), ((refl, refl), ((refl, refl), ((refl, refl), ((refl, refl), ((refl, refl), ((refl, refl), ((refl, refl), ((refl, refl), ((refl, refl), tt))))))))))))
