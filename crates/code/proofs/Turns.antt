-- One turn of each loop over the digits of a row. Assumes nothing.
use Rattle.std.proofs.Common.{◌≡◌, ℕ, zero, refl, suc, pred, ◌+◌, ◌-◌, ◌*◌, ◌^◌, ◌/◌, ◌%◌, ◌<◌, ◌≤◌, List, length, get_or, set, take, sym, ap, ◌∙◌, below_more, drop, ◌++◌, replicate, reverse, add-one, arith}
use native.Mathlib.Nat.{pow-le-pow_right}
use Rattle.std.proofs.Math.Nat.{pow-suc, div-div-eq-div-mul}
use Rattle.std.specs.List.{fold}
use Rattle.std.proofs.lemmas.List.Sums.{fold_more}
use Rattle.std.proofs.lemmas.Grind.{get_or_default_zero}
use Rattle.std.proofs.lemmas.List.{take-take, length-take, get_or-take, get_or-set_same, get_or-set_other, get_or_append_left, get_or-append_right, get_or-drop, get_or-replicate, get_or_past, length-replicate, get_or-reverse, length-reverse, take_at, drop_at}
use Rattle.std.proofs.lemmas.Bool.Decides.{nat_tests}
use Rattle.code.specs.declared.pair.Pair.{Pair}
use Rattle.code.specs.Pairs.{most_rows, rows_of}
use Rattle.code.specs.Rows.{digit, row, held}
use Rattle.code.proofs.Digits.{digit_at, digit_past, row_lt}

-- the last i digits of the row y are written, the last of all first, and the rest is the row without them
pub record Written (m y i rest : ℕ) (digits : List ℕ) : Type 0 where
  pub rest_of_row : rest ≡ y / m ^ i
  pub last_digits : (s : ℕ) → s < i → get_or digits s 0 ≡ y / m ^ s % m

-- one digit more
pub written_more : (m y i rest : ℕ) (digits : List ℕ) → Written m y i rest digits → i < length digits → Written m y (i + 1) (rest / m) (set digits i (rest % m))
written_more m y i rest digits w l = record {
  rest_of_row = ap (λ x. x / m) w.rest_of_row ∙ div-div-eq-div-mul y (m ^ i) m ∙ ap (λ x. y / x) (sym (pow-suc m i) ∙ ap (λ k. m ^ k) (sym (add-one i)));
  last_digits = below_more _ i (λ s k. let ne : s ≡ i → ⊥ = omega arith in rw get_or-set_other (w.last_digits s k)) (get_or-set_same digits i _ 0 l ∙ ap (λ x. x % m) w.rest_of_row);
}

zero_there : (n i : ℕ) → ◌≡◌ {A = ℕ} (get_or (replicate n 0) i 0) 0
zero_there n i = grind (arith, nat_tests, get_or-replicate {A = ℕ} n i 0 0, get_or_past {X = ℕ} (replicate n 0) i 0, length-replicate {A = ℕ})

-- all digits turned round, and 0 after them
pub all_written : (m n y i rest t : ℕ) (digits turned : List ℕ) → 0 < m → Written m y i rest digits → length digits ≡ n → n ≤ i → (zeros : ℕ)
    → turned ≡ reverse (take n (digits ++ drop n (replicate zeros 0))) → held (turned ++ drop n (digits ++ drop n (replicate zeros 0))) t ≡ digit m n t y
all_written m n y i rest t digits turned p w e l zeros r =
    let after : List ℕ = drop n (replicate zeros 0) in
    let turns : turned ≡ reverse digits = r ∙ ap reverse (take_at digits after n e) in
    let long : length turned ≡ n = ap length turns ∙ length-reverse digits ∙ e in
    let here : t < n → get_or turned t 0 ≡ digit m n t y = λ h.
    let place : length digits - 1 - t ≡ n - (t + 1) = omega arith in
    ap (λ xs. get_or xs t 0) turns ∙ get_or-reverse digits t 0 (omega arith) ∙ ap (λ s. get_or digits s 0) place
    ∙ w.last_digits (n - (t + 1)) (omega arith) ∙ sym (digit_at m n t y p h) in
    rw (drop_at digits after n e) (grind (arith, nat_tests, here, digit_past, zero_there, get_or_append_left turned after 0 t, get_or-append_right turned after n t 0, get_or-drop {A = ℕ}))

-- the first t digits, folded, are a row
pub folded_first : (m t : ℕ) (digits : List ℕ) → t ≤ length digits → fold (λ y d. y * m + d) 0 (take t digits) ≡ row m t (held digits)
unfolding row
folded_first m zero digits l = refl
folded_first m (suc t) digits l = grind (arith, folded_first m t digits, fold_more (λ y d. y * m + d) 0 digits t 0)

-- with one digit more they are still a row of the pair, and so are small
pub next_few : (p : Pair) (digits : List ℕ) (t y d : ℕ) → ((s : ℕ) → held digits s < p.m) → t < length (take (p.k - 1) digits)
    → y ≡ fold (λ y d. y * p.m + d) 0 (take t (take (p.k - 1) digits)) → d ≡ get_or (take (p.k - 1) digits) t d
    → (y * p.m < most_rows) × (y * p.m + d < most_rows)
unfolding rows_of row
next_few p digits t y d h l folded here =
    let before : t < p.k - 1 = omega (arith, length-take (p.k - 1) digits) in
    let y_is : y ≡ row p.m t (held digits) = grind (arith, folded_first p.m t digits, length-take, take-take) in
    let d_is : d ≡ held digits t = grind (arith, get_or-take, get_or_default_zero, length-take) in
    let row_of_m : row p.m (suc t) (held digits) < p.m ^ suc t = row_lt p.m (suc t) (held digits) (λ s _. h s) in
    let fewer : p.m ^ suc t ≤ p.m ^ pred p.k = pow-le-pow_right (omega arith) (omega arith) in
    rw (y_is, d_is) (omega arith, omega arith)
