-- Spans of bytes put into a buffer, by which functions that write one span after the other are told.
use Rattle.std.specs.Prelude.{ℕ, ◌+◌, ◌≤◌, ◌<◌, ◌≡◌, List, length, get_or}

-- x is d with f 0, .., f (k - 1) from offset start on
pub record Put (start k : ℕ) (f : ℕ → ℕ) (d x : List ℕ) : Type 0 where
  pub size : length x ≡ length d
  pub inside : (i : ℕ) → i < k → get_or x (start + i) 0 ≡ f i
  pub below : (i : ℕ) → i < start → get_or x i 0 ≡ get_or d i 0
  pub above : (i : ℕ) → start + k ≤ i → get_or x i 0 ≡ get_or d i 0
