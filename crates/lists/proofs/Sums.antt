-- Sums and counts over the numbers below a bound. Assumes nothing.
use Rattle.std.proofs.Common.{◌≡◌, ℕ, zero, suc, ◌+◌, ◌*◌, ◌<◌, Bool, cond, eqb, ltb, refl, ap, ◌∙◌, ap₂, add-zero, add-suc, suc-mul, zero-mul, arith}
use Rattle.std.proofs.lemmas.Bool.Decides.{nat_tests}

-- F 0 + .. + F (n - 1). The library's sums over a range have no law of groups
unfoldable pub total : ℕ → (ℕ → ℕ) → ℕ
total zero F = 0
total (suc n) F = total n F + F n

-- how many numbers below n pass
abbrev pub count : ℕ → (ℕ → Bool) → ℕ
count n p = total n (λ x. cond (p x) 1 0)

pub total_ext : (n : ℕ) (F G : ℕ → ℕ) → ((x : ℕ) → x < n → F x ≡ G x) → total n F ≡ total n G
unfolding total
total_ext zero F G e = refl
total_ext (suc n) F G e = ap₂ (λ a b. a + b) (total_ext n F G (λ x l. e x (omega arith))) (e n (omega arith))

pub count_ext : (n : ℕ) (p q : ℕ → Bool) → ((x : ℕ) → x < n → p x ≡ q x) → count n p ≡ count n q
count_ext n p q e = total_ext n (λ x. cond (p x) 1 0) (λ x. cond (q x) 1 0) (λ x l. ap (λ b. cond b 1 0) (e x l))

pub total_all : (n s : ℕ) → total n (λ _. s) ≡ n * s
unfolding total
total_all zero s = omega arith
total_all (suc n) s = omega (arith, total_all n s)

pub total_scaled : (n s : ℕ) (F : ℕ → ℕ) → total n (λ x. F x * s) ≡ total n F * s
unfolding total
total_scaled zero s F = omega arith
total_scaled (suc n) s F = omega (arith, total_scaled n s F)

pub total_split : (a b : ℕ) (F : ℕ → ℕ) → total (a + b) F ≡ total a F + total b (λ x. F (a + x))
unfolding total
total_split a zero F = simp add-zero
total_split a (suc b) F = rw (add-suc, total_split a b F) (omega arith)

-- over n groups of s numbers each
pub total_groups : (n s : ℕ) (F : ℕ → ℕ) → total (n * s) F ≡ total n (λ q. total s (λ d. F (q * s + d)))
unfolding total
total_groups zero s F = rw zero-mul
total_groups (suc n) s F = rw (suc-mul, total_split, total_groups n s F)

-- a sum of which every term is t, but s at f
pub total_one : (n f s t : ℕ) → total n (λ b. cond (eqb b f) s t) + cond (ltb f n) t 0 ≡ n * t + cond (ltb f n) s 0
unfolding total
total_one zero f s t = grind (arith, nat_tests)
total_one (suc n) f s t = grind (arith, nat_tests, total_one n f s t)

-- a sum of which the first k terms are s, and the others 0
pub total_below : (n k s : ℕ) → total n (λ b. cond (ltb b k) s 0) ≡ cond (ltb n k) n k * s
unfolding total
total_below zero k s = grind (arith, nat_tests)
total_below (suc n) k s = let full : suc n ≡ k → suc n * s ≡ k * s = ap (λ x. x * s) in grind (arith, nat_tests, total_below n k s)

-- just one number below n passes
pub count_one : (n x : ℕ) → x < n → count n (λ d. eqb d x) ≡ 1
count_one n x l = grind (arith, nat_tests, total_one n x 1 0)

-- all numbers below n pass, or none
pub count_all : (n : ℕ) (p : ℕ → Bool) (b : Bool) → ((x : ℕ) → x < n → p x ≡ b) → count n p ≡ cond b 1 0 * n
count_all n p b e = count_ext n p (λ _. b) e ∙ total_all n (cond b 1 0) ∙ omega arith
