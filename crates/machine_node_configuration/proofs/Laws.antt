-- What holds of every request, whatever the node, its address and the buffer.
use Prim.Native.Nat.{ℕ}
use mathlib.Core.Path.{◌≡◌, refl, sym}
use mathlib.Core.List.{List, [], ◌∷◌, ◌++◌}
use mathlib.Core.Bool.{Bool, true, false, ◌&&◌, or-true}
use lib.ListN.{length, drop}
use lib.Dec.{eqb, ltb}
use native.Mathlib.Omega.{arith}
use borrow.Author.Tests.{eqb-true, le-ltb}
use Rattle.base_lists.proofs.AllAny.{and_l, and_r}
use Rattle.base_lists.proofs.Choices.{by_test, no_way}
use Rattle.base_bytes.specs.Bytes.{byte, number}
use Rattle.set_plan.specs.Rules.{between}
use Rattle.machine_node_configuration.specs.declared.Identity.{Identity}
use Rattle.machine_node_configuration.specs.Responses.{Reply}
use Rattle.machine_node_configuration.specs.Requests.{assign_node_address, node_product_identification, node_serial_number_identification, is_assign, new_address, is_read, wrong_length, is_known, request_refusal, is_for, takes_assign}
use Rattle.machine_node_configuration.specs.Responses.{response_to, address_after, configure_refusal, configured, responded}

-- an assign is no read, and is refused as it stands exactly where its length is wrong
module _ (s : List ℕ) (e : is_assign s ≡ true) where
  writes : byte s 0 ≡ 0x2e
  unfolding is_assign
  writes = eqb-true _ _ (and_l _ (eqb (number s 1) assign_node_address) e)

  no_read : (identifier : ℕ) → is_read identifier s ≡ false
  unfolding is_read
  no_read identifier = rw writes

  not_refused : length s ≡ 8 → request_refusal s ≡ 0
  unfolding request_refusal wrong_length is_known
  not_refused n = rw (e, n, writes)

  refused : eqb (length s) 8 ≡ false → request_refusal s ≡ 23
  unfolding request_refusal wrong_length is_known
  refused n = rw (e, writes, n, or-true (eqb (length s) 0))

module _ (i : Identity) (address : ℕ) (s : List ℕ) where
  taken_in_range : takes_assign i s ≡ true → between 1 125 (new_address s) ≡ true
  unfolding takes_assign
  taken_in_range e = and_r (is_assign s && is_for i s) _ e

  -- an address that was in 1 to 125 stays so
  pub stays-in_range : (room : ℕ) → between 1 125 address ≡ true → between 1 125 (configured i address s room).address ≡ true
  unfolding configured address_after
  stays-in_range room h = by_test (λ (r : Reply). between 1 125 r.address ≡ true) (eqb (configure_refusal i s room) 0)
      (λ _. by_test (λ a. between 1 125 a ≡ true) (takes_assign i s) taken_in_range (λ _. h))
      (λ _. h)

  -- only an assign, of 8 bytes, changes the address
  pub only_assign : (room : ℕ) → (is_assign s && eqb (length s) 8) ≡ false → (configured i address s room).address ≡ address
  unfolding configured configure_refusal address_after takes_assign
  only_assign room n = go (is_assign s) refl (eqb (length s) 8) refl
    where
      go : (a : Bool) → is_assign s ≡ a → (b : Bool) → eqb (length s) 8 ≡ b → (configured i address s room).address ≡ address
      go false u b v = by_test (λ (r : Reply). r.address ≡ address) (eqb (configure_refusal i s room) 0) (λ _. rw u) (λ _. refl)
      go true u true v = no_way (let z : true ≡ false = rw (u, v) at n in sym z)
      go true u false v = rw (refused s u v)

  no_response : is_assign s ≡ true → takes_assign i s ≡ false → response_to i s ≡ []
  unfolding response_to
  no_response e n = rw (n, no_read s e node_product_identification, no_read s e node_serial_number_identification)

  -- an assign that is not taken meets silence, in any buffer
  pub silent : (room : ℕ) → is_assign s ≡ true → length s ≡ 8 → takes_assign i s ≡ false
      → configured i address s room ≡ record { refusal = 0; length = 0; address = address }
  unfolding configured configure_refusal address_after
  silent room e l n =
      let fits : ltb room 0 ≡ false = le-ltb room 0 (omega arith) in
      rw (not_refused s e l, no_response e n, fits, n)

  -- no response starts with 7F hex, to an assign or to a read
  pub never_negative : byte (response_to i s) 0 ≡ 0x7f → ⊥
  unfolding response_to
  never_negative =
      by_test Positive (takes_assign i s) (λ _ z. omega arith)
      (λ _. by_test Positive (is_read node_product_identification s) (λ _ z. omega arith)
      (λ _. by_test Positive (is_read node_serial_number_identification s) (λ _ z. omega arith) (λ _ z. omega arith)))
    where
      Positive : List ℕ → Type 0
      Positive a = byte a 0 ≡ 0x7f → ⊥

  -- a refusal has no response
  pub refused-silent : (room : ℕ) → ((configured i address s room).refusal ≡ 0 → ⊥) → (configured i address s room).length ≡ 0
  unfolding configured
  refused-silent room =
      by_test (λ (r : Reply). (r.refusal ≡ 0 → ⊥) → r.length ≡ 0) (eqb (configure_refusal i s room) 0) (λ _ n. absurd (n refl)) (λ _ _. refl)

  -- without a response the address stays
  unassigned : (b : Bool) → takes_assign i s ≡ b → length (response_to i s) ≡ 0 → address_after i address s ≡ address
  unfolding response_to address_after
  unassigned true u = rw u (λ e. absurd (omega arith))
  unassigned false u = rw u (λ _. refl)

  -- refused or met by silence: address and buffer stay
  pub silence_keeps : (buffer : List ℕ) → (configured i address s (length buffer)).length ≡ 0
      → ((configured i address s (length buffer)).address ≡ address) × (responded i s buffer ≡ buffer)
  unfolding configured responded
  silence_keeps buffer = go (eqb (configure_refusal i s (length buffer)) 0) refl
    where
      empty : (a : List ℕ) → length a ≡ 0 → a ++ drop (length a) buffer ≡ buffer
      empty [] e = refl
      empty (c ∷ a) e = absurd (omega arith)

      go : (b : Bool) → eqb (configure_refusal i s (length buffer)) 0 ≡ b
          → (configured i address s (length buffer)).length ≡ 0 → ((configured i address s (length buffer)).address ≡ address) × (responded i s buffer ≡ buffer)
      go true u = rw u (λ none. (unassigned (takes_assign i s) refl none, empty (response_to i s) none))
      go false u = rw u (λ _. (refl, refl))
