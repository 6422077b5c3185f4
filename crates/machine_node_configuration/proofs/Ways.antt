-- The ways a request can go: refused as it stands, its response too long for the buffer, or done.
use Prim.Native.Nat.{ℕ, ◌+◌, ◌≤◌, ◌<◌}
use mathlib.Core.Path.{◌≡◌, refl, ap, ◌∙◌}
use mathlib.Core.List.{List, ◌++◌}
use lib.ListN.{length, drop}
use lib.Seq.{sets, sets-eq}
use native.Mathlib.Omega.{arith}
use borrow.Author.Tests.{ne_eqb, lt-ltb, le-ltb}
use Rattle.base_lists.proofs.Choices.{by_test}
use Rattle.machine_node_configuration.specs.declared.Identity.{Identity}
use Rattle.machine_node_configuration.specs.Responses.{Reply}
use Rattle.machine_node_configuration.specs.Requests.{node_product_identification, node_serial_number_identification, is_read, request_refusal, takes_assign}
use Rattle.machine_node_configuration.specs.Responses.{response_to, address_after, configure_refusal, refuse, configured, responded}

module _ (i : Identity) (address : ℕ) (s buffer : List ℕ) where
  -- a reply and a buffer as promised
  abbrev pub Promised : Reply → List ℕ → Type 0
  Promised r after = (r ≡ configured i address s (length buffer)) × (after ≡ responded i s buffer)

  pub request_refused : (request_refusal s ≡ 0 → ⊥) → Promised (refuse address (request_refusal s)) buffer
  unfolding configured responded configure_refusal
  request_refused n = rw (ne_eqb _ _ n, ne_eqb _ _ n) (refl, refl)

  pub too_long : request_refusal s ≡ 0 → length buffer < length (response_to i s) → Promised (refuse address 10) buffer
  unfolding configured responded configure_refusal
  too_long e l = rw (e, lt-ltb _ _ l) (refl, refl)

  pub done : request_refusal s ≡ 0 → length (response_to i s) ≤ length buffer
      → Promised (record { refusal = 0; length = length (response_to i s); address = address_after i address s }) (sets buffer 0 (response_to i s))
  unfolding configured responded configure_refusal
  done e l =
      let n : 0 + length (response_to i s) ≡ length (response_to i s) = omega arith in
      rw (e, le-ltb _ _ l) (refl, sets-eq (response_to i s) buffer 0 (omega arith) ∙ ap (λ k. response_to i s ++ drop k buffer) n)

-- no response is longer than eight bytes
pub short : (i : Identity) (s : List ℕ) → length (response_to i s) ≤ 8
unfolding response_to
short i s =
    by_test Short (takes_assign i s) (λ _. omega arith)
    (λ _. by_test Short (is_read node_product_identification s) (λ _. omega arith)
    (λ _. by_test Short (is_read node_serial_number_identification s) (λ _. omega arith) (λ _. omega arith)))
  where
    Short : List ℕ → Type 0
    Short a = length a ≤ 8
