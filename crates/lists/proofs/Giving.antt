-- What a box gives, case by case. Assumes nothing.
use Rattle.std.proofs.Common.{◌≡◌, ℕ, pred, ◌+◌, ◌-◌, ◌%◌, ◌<◌, ◌≤◌, false, cond, eqb, ltb, List, sub-one, mod-eq_of_lt, arith}
use Rattle.std.proofs.Math.Nat.{add-mod}
use Rattle.std.proofs.lemmas.Bool.Decides.{nat_tests}
use Rattle.code.specs.Rows.{digit, held, low}
use Rattle.lists.specs.ReadingLists.{first_digit_is, difference_is, gives}

module _ (m k f c b y : ℕ) where
  pub gives_own : f < k → b ≡ f → gives m k f c b y ≡ false
  unfolding gives
  gives_own hf e = grind (arith, nat_tests)

  pub gives_other : f < k → (b ≡ f → ⊥) → gives m k f c b y ≡ cond (eqb f 0) (first_digit_is m k c b y) (difference_is m k f c y)
  unfolding gives
  gives_other hf ne = grind (arith, nat_tests)

  pub gives_parity : k ≤ f → gives m k f c b y ≡ ltb b k
  unfolding gives
  gives_parity hf = grind (arith, nat_tests)

  -- the same by the digits that a list holds
  module _ (digits : List ℕ) (are : (t : ℕ) → held digits t ≡ digit m (pred k) t y) (hf : f < k) (ne : b ≡ f → ⊥) where
    pub gives_later : 0 < f → eqb (low m (held digits f) (held digits (f - 1))) c ≡ gives m k f c b y
    gives_later pos = simp (sub-one, are) (grind (arith, nat_tests, gives_other hf ne))

    pub gives_first_data : f ≤ 0 → b < k → eqb (held digits 0) c ≡ gives m k f c b y
    gives_first_data none h = rw are (grind (arith, nat_tests, gives_other hf ne))

    pub gives_first_parity : f ≤ 0 → k ≤ b → eqb (held digits 0) ((c + (b - k)) % m) ≡ gives m k f c b y
    gives_first_parity none h = rw are (grind (arith, nat_tests, gives_other hf ne))

    -- with b - k reduced, so that the sum is small whatever b is
    pub gives_first_reduced : f ≤ 0 → k ≤ b → c < m → eqb (held digits 0) ((c + (b - k) % m) % m) ≡ gives m k f c b y
    gives_first_reduced none h l =
        let reduced : (c + (b - k) % m) % m ≡ (c + (b - k)) % m = grind (arith, mod-eq_of_lt l, add-mod c (b - k) m) in
        rw reduced (gives_first_parity none h)
