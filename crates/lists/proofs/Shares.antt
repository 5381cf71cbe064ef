-- Each box gives one row in m: how many rows have a digit, or a difference of two digits, as a list wants it. Assumes nothing.
use Rattle.std.proofs.Common.{◌≡◌, ℕ, zero, suc, pred, ◌+◌, ◌*◌, ◌^◌, ◌<◌, Bool, cond, eqb, sym, ◌∙◌, ⊎_elim, le_of_lt, pow-suc, mul-one, arith}
use lib.Arith.{digits_div, digits_mod}
use Rattle.std.proofs.lemmas.Bool.{cases_eq, cases_lt}
use Rattle.std.proofs.lemmas.Bool.Decides.{nat_tests}
use Rattle.code.specs.Rows.{digit, low}
use Rattle.code.proofs.Digits.{digit_past, digit_lt}
use Rattle.code.proofs.Places.{low_is, low_lt, low_none}
use Rattle.lists.proofs.Sums.{total, count, total_ext, total_all, total_scaled, total_groups, count_ext, count_one, count_all}

-- a test of rows of n + 1 digits, by how many last digits pass behind each front
share : (m n : ℕ) (p : ℕ → Bool) (F : ℕ → ℕ) → ((y : ℕ) → count m (λ d. p (y * m + d)) ≡ F y) → count (m ^ suc n) p ≡ total (m ^ n) F
share m n p F e = rw (pow-suc, total_groups) (total_ext (m ^ n) _ F (λ y _. e y))

pub one_more : (m n : ℕ) → 0 < n → m ^ pred n * m ≡ m ^ n
one_more m zero p = absurd (omega arith)
one_more m (suc n) p = sym (pow-suc m n)

-- tests of rows of n digits, for each n: with s + 1 digits the last one passes at just one value, whatever the others are, and
-- a digit more behind them changes nothing
share_at : (m n s : ℕ) (p : ℕ → ℕ → Bool) (x : ℕ → ℕ) → s < n → ((y : ℕ) → x y < m)
    → ((y d : ℕ) → d < m → p (suc s) (y * m + d) ≡ eqb d (x y)) → ((k y d : ℕ) → s < k → d < m → p (suc k) (y * m + d) ≡ p k y)
    → count (m ^ n) (p n) ≡ m ^ pred n
share_at m zero s p x l small last front = absurd (omega arith)
share_at m (suc n) s p x l small last front =
    ⊎_elim
    (λ e. share m n (p (suc n)) (λ _. 1) (λ y. count_ext m _ (λ d. eqb d (x y)) (rw (← e) (last y)) ∙ count_one m (x y) (small y)) ∙ total_all (m ^ n) 1 ∙ mul-one (m ^ n))
    (λ ne. share m n (p (suc n)) (λ y. cond (p n y) 1 0 * m) (λ y. count_all m _ (p n y) (λ d. front n y d (omega arith)))
    ∙ total_scaled (m ^ n) m (λ y. cond (p n y) 1 0)
    ∙ rw (share_at m n s p x (omega arith) small last front) (one_more m n (omega arith)))
    (cases_eq s n)

-- a digit of a row is the last one, or one of its front
digit_next : (m n t q d : ℕ) → d < m → digit m (suc n) t (q * m + d) ≡ cond (eqb t n) d (digit m n t q)
unfolding digit
digit_next m n t q d l = rw (digits_mod q l, digits_div q l)

-- one row in m has the digit e at place t
pub digit_share : (m n t e : ℕ) → e < m → t < n → count (m ^ n) (λ y. eqb (digit m n t y) e) ≡ m ^ pred n
digit_share m n t e he l =
    share_at m n t (λ k y. eqb (digit m k t y) e) (λ _. e) l (λ _. he) (λ y d h. grind (arith, nat_tests, digit_next m t t y d h))
    (λ k y d lk h. grind (arith, nat_tests, digit_next m k t y d h))

-- a - d is c just where d is a - c, modulo m
swapped : (m a d c : ℕ) → a < m → d < m → c < m → eqb (low m d a) c ≡ eqb d (low m c a)
swapped m a d c ha hd hc =
    grind (arith, nat_tests, low_is m d a ha (le_of_lt hd), low_is m c a ha (le_of_lt hc), low_lt m d (omega arith) a ha, low_lt m c (omega arith) a ha)

-- one row in m has the difference c between the digits at t and t + 1
pub difference_share : (m n t c : ℕ) → c < m → t < n → count (m ^ n) (λ y. eqb (low m (digit m n (suc t) y) (digit m n t y)) c) ≡ m ^ pred n
difference_share m n t c hc l =
    let small : (y : ℕ) → digit m (suc t) t y < m = λ y. digit_lt m (suc t) t y (omega arith) in
    ⊎_elim
    (λ h. share_at m n (suc t) (λ k y. eqb (low m (digit m k (suc t) y) (digit m k t y)) c) (λ y. low m c (digit m (suc t) t y)) h
    (λ y. low_lt m c (omega arith) (digit m (suc t) t y) (small y))
    (λ y d hd. rw (digit_next, digit_next) (grind (arith, nat_tests, swapped m (digit m (suc t) t y) d c (small y) hd hc)))
    (λ k y d lk hd. rw (digit_next, digit_next) (grind (arith, nat_tests))))
    (λ h. count_ext (m ^ n) _ (λ y. eqb (digit m n t y) c) (λ y _. grind (arith, digit_past m n (suc t) y h, low_none m (digit m n t y) (digit_lt m n t y (omega arith))))
    ∙ digit_share m n t c hc l)
    (cases_lt (suc t) n)
