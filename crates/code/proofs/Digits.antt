-- Rows and their digits are the same thing, and what a change of the first digits does to a row. Assumes nothing.
use Rattle.std.proofs.Common.{◌≡◌, ℕ, zero, suc, ◌+◌, ◌-◌, ◌*◌, ◌/◌, ◌%◌, ◌^◌, ◌<◌, ◌≤◌, cond, ltb, sym, refl, ap, ◌∙◌, ap₂, mod-lt, div-lt_iff_lt-mul, pow-suc, div-add-mod', ⊎_elim, mul-div_cancel, mul_comm, arith}
use Rattle.std.proofs.Math.Nat.{div-one, div-div-eq-div-mul}
use Rattle.std.proofs.lemmas.Bool.{cases_eq}
use native.Mathlib.Nat.{pow-zero}
use lib.Arith.{digits_lt, digits_div, digits_mod}
use Rattle.std.proofs.lemmas.Bool.Decides.{nat_tests}
use Rattle.code.specs.Rows.{digit, row, changed, moved}

pub digit_last : (m n y : ℕ) → digit m (suc n) n y ≡ y % m
unfolding digit
digit_last m n y = grind (arith, nat_tests)

pub digit_front : (m n t y : ℕ) → (t ≡ n → ⊥) → digit m (suc n) t y ≡ digit m n t (y / m)
unfolding digit
digit_front m n t y h = grind (arith, nat_tests)

pub digit_lt : (m n t y : ℕ) → 0 < m → digit m n t y < m
unfolding digit
digit_lt m zero t y p = p
digit_lt m (suc n) t y p = grind (arith, nat_tests, mod-lt, digit_lt m n t (y / m) p)

pub digit_past : (m n t y : ℕ) → n ≤ t → digit m n t y ≡ 0
unfolding digit
digit_past m zero t y h = refl
digit_past m (suc n) t y h = grind (arith, nat_tests, digit_past m n t (y / m))

pub row_lt : (m n : ℕ) (a : ℕ → ℕ) → ((t : ℕ) → t < n → a t < m) → row m n a < m ^ n
unfolding row
row_lt m zero a h = simp pow-zero (omega arith)
row_lt m (suc n) a h =
    rw pow-suc (digits_lt (row_lt m n a (λ t l. h t (omega arith))) (h n (omega arith)))

pub row_ext : (m n : ℕ) (a b : ℕ → ℕ) → ((t : ℕ) → t < n → a t ≡ b t) → row m n a ≡ row m n b
unfolding row
row_ext m zero a b h = refl
row_ext m (suc n) a b h = ap₂ (λ q d. q * m + d) (row_ext m n a b (λ t l. h t (omega arith))) (h n (omega arith))

-- the front of a row, without its last digit
pub front_lt : (m n y : ℕ) → 0 < m → y < m ^ suc n → y / m < m ^ n
front_lt m n y p h = (div-lt_iff_lt-mul p).1 (rw pow-suc at h)

pub digit_row : (m n t : ℕ) (a : ℕ → ℕ) → ((s : ℕ) → s < n → a s < m) → t < n → digit m n t (row m n a) ≡ a t
unfolding row
digit_row m zero t a h l = absurd (omega arith)
digit_row m (suc n) t a h l =
    let small : a n < m = h n (omega arith) in
    let front : t < n → digit m n t (row m n a) ≡ a t = digit_row m n t a (λ s k. h s (omega arith)) in
    grind (arith, digit_last, digit_front, digits_div (row m n a) small, digits_mod (row m n a) small)

pub row_digit : (m n y : ℕ) → 0 < m → y < m ^ n → row m n (λ t. digit m n t y) ≡ y
unfolding row
row_digit m zero y p h = let small : y < 1 = rw pow-zero at h in omega arith
row_digit m (suc n) y p h =
    ap₂ (λ q d. q * m + d)
    (row_ext m n (λ t. digit m (suc n) t y) (λ t. digit m n t (y / m)) (λ t l. digit_front m n t y (omega arith)) ∙ row_digit m n (y / m) p (front_lt m n y p h))
    (digit_last m n y)
    ∙ div-add-mod' y m

pub digit_ext : (m n x y : ℕ) → 0 < m → x < m ^ n → y < m ^ n → ((t : ℕ) → t < n → digit m n t x ≡ digit m n t y) → x ≡ y
digit_ext m n x y p hx hy e =
    sym (row_digit m n x p hx) ∙ row_ext m n (λ t. digit m n t x) (λ t. digit m n t y) e ∙ row_digit m n y p hy

-- g takes digits in base m to such digits
abbrev pub Keeps : ℕ → (ℕ → ℕ) → Type 0
Keeps m g = (a : ℕ) → a < m → g a < m

pub changed_lt : (m n : ℕ) (g : ℕ → ℕ) (j y t : ℕ) → 0 < m → Keeps m g → changed m n g j y t < m
changed_lt m n g j y t p k = grind (arith, nat_tests, k (digit m n t y), digit_lt m n t y p)

pub moved_lt : (m n : ℕ) (g : ℕ → ℕ) (j y : ℕ) → 0 < m → Keeps m g → moved m n g j y < m ^ n
unfolding moved
moved_lt m n g j y p k = row_lt m n (changed m n g j y) (λ t _. changed_lt m n g j y t p k)

pub digit_moved : (m n : ℕ) (g : ℕ → ℕ) (j y t : ℕ) → 0 < m → Keeps m g → t < n → digit m n t (moved m n g j y) ≡ changed m n g j y t
unfolding moved
digit_moved m n g j y t p k l = digit_row m n t (changed m n g j y) (λ s _. changed_lt m n g j y s p k) l

-- the front of a moved row is moved as a row of its own, and the last digit changes if j reaches it
pub moved_step : (m n : ℕ) (g : ℕ → ℕ) (j y : ℕ) → moved m (suc n) g j y ≡ moved m n g j (y / m) * m + cond (ltb n j) (g (y % m)) (y % m)
unfolding moved row
moved_step m n g j y =
    ap₂ (λ q d. q * m + d)
    (row_ext m n (changed m (suc n) g j y) (changed m n g j (y / m)) (λ t l. ap (λ d. cond (ltb t j) (g d) d) (digit_front m n t y (omega arith))))
    (ap (λ d. cond (ltb n j) (g d) d) (digit_last m n y))

-- two changes, one after the other: where f does to each digit what g and then h do, f j is h j after g l at every place
pub moved_after : (m n : ℕ) (g h : ℕ → ℕ) (l j : ℕ) (y z : ℕ) → 0 < m → Keeps m g → Keeps m h → z < m ^ n
    → ((t : ℕ) → t < n → digit m n t z ≡ cond (ltb t j) (h (changed m n g l y t)) (changed m n g l y t))
    → moved m n h j (moved m n g l y) ≡ z
moved_after m n g h l j y z p kg kh lt e =
    digit_ext m n _ z p (moved_lt m n h j (moved m n g l y) p kh) lt
    (λ t k. digit_moved m n h j (moved m n g l y) t p kh k ∙ ap (λ d. cond (ltb t j) (h d) d) (digit_moved m n g l y t p kg k) ∙ sym (e t k))

-- the digit before a weight, and the weight of the next
pub next_weight : (m n t : ℕ) → 0 < m → t < n → m ^ (n - t) / m ≡ m ^ (n - (t + 1))
next_weight m n t p l =
    let e : n - t ≡ suc (n - (t + 1)) = omega arith in
    ap (λ k. m ^ k / m) e ∙ ap (λ x. x / m) (pow-suc m (n - (t + 1))) ∙ mul-div_cancel (m ^ (n - (t + 1))) p

-- the digit at t, by its weight
pub digit_at : (m n t y : ℕ) → 0 < m → t < n → digit m n t y ≡ y / m ^ (n - (t + 1)) % m
digit_at m zero t y p l = absurd (omega arith)
digit_at m (suc n) t y p l = ⊎_elim last (λ ne. front ne (λ h. digit_at m n t (y / m) p h)) (cases_eq t n)
  where
    last : t ≡ n → digit m (suc n) t y ≡ y / m ^ (suc n - (t + 1)) % m
    last e =
        let z : suc n - (t + 1) ≡ 0 = omega arith in
        ap (λ s. digit m (suc n) s y) e ∙ digit_last m n y ∙ ap (λ x. x % m) (sym (ap (λ k. y / m ^ k) z ∙ ap (λ x. y / x) (pow-zero m) ∙ div-one y))

    front : (t ≡ n → ⊥) → (t < n → digit m n t (y / m) ≡ y / m / m ^ (n - (t + 1)) % m) → digit m (suc n) t y ≡ y / m ^ (suc n - (t + 1)) % m
    front ne ih =
        let z : suc n - (t + 1) ≡ suc (n - (t + 1)) = omega arith in
        digit_front m n t y ne ∙ ih (omega arith)
        ∙ ap (λ x. x % m) (div-div-eq-div-mul y m (m ^ (n - (t + 1))) ∙ ap (λ x. y / x) (mul_comm m (m ^ (n - (t + 1))) ∙ sym (pow-suc m (n - (t + 1))) ∙ ap (λ k. m ^ k) (sym z)))
