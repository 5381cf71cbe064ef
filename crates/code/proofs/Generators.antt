-- The three ways to the generator give one matrix. Assumes nothing.
use Rattle.std.proofs.Common.{◌≡◌, ℕ, zero, suc, pred, ◌+◌, ◌-◌, ◌*◌, ◌/◌, ◌%◌, ◌^◌, ◌<◌, ◌≤◌, cond, ◌&&◌, eqb, ltb, refl, ap, ap₂, mod-lt, mod-eq_of_lt, div-lt_iff_lt-mul, pow-suc, div-add-mod', arith}
use native.Mathlib.Nat.{pow-zero, one-le-pow}
use lib.Arith.{digits_div, digits_mod}
use Rattle.std.proofs.lemmas.Bool.Decides.{nat_tests}
use Rattle.code.specs.Rows.{low, place}
use Rattle.code.specs.Generator.{Matrix, Blocks, by_place, product, factor, closed, grown_by, grown, SameEntries, ThreeWaysOneGenerator}
use Rattle.code.proofs.Digits.{front_lt, moved_step, moved_lt}
use Rattle.code.proofs.Places.{low_lt}

-- a number equals q × m + d just if its front is q and its last digit is d
split_eqb : (m x q d : ℕ) → d < m → eqb x (q * m + d) ≡ (eqb (x / m) q && eqb (x % m) d)
split_eqb m x q d h = grind (arith, nat_tests, div-add-mod' x m, digits_div q h, digits_mod q h)

-- the closed form has its 1s where place says
pub closed_place : (m n i j y x : ℕ) → 0 < m → y < m ^ n → x < m ^ n → product m n (factor m i j) y x ≡ eqb x (place m n i j y)
unfolding product
closed_place m zero i j y x p hy hx =
    let small : x < 1 = rw pow-zero at hx in
    let small_place : place m zero i j y < 1 = rw pow-zero at (moved_lt m zero (low m i) j y p (low_lt m i p)) in
    grind (arith, nat_tests)
closed_place m (suc n) i j y x p hy hx =
    let ih = closed_place m n i j (y / m) (x / m) p (front_lt m n y p hy) (front_lt m n x p hx) in
    let split = split_eqb m x (place m n i j (y / m)) (cond (ltb n j) (low m i (y % m)) (y % m)) (grind (arith, mod-lt, low_lt m i p (y % m))) in
    grind (arith, moved_step m n (low m i) j y)

-- products of the same factors are the same
product_ext : (m n : ℕ) (F G : ℕ → Matrix) (y x : ℕ) → ((t : ℕ) → t < n → F t ≡ G t) → product m n F y x ≡ product m n G y x
unfolding product
product_ext m zero F G y x e = refl
product_ext m (suc n) F G y x e =
    ap₂ ◌&&◌ (product_ext m n F G (y / m) (x / m) (λ t l. e t (omega arith))) (ap (λ A. A (y % m) (x % m)) (e n (omega arith)))

-- the matrix grown by t data boxes is the closed form with t + 1 factors
grown_closed : (m t i j y x : ℕ) → 0 < m → j ≤ t + 1 → y < m ^ suc t → x < m ^ suc t → grown_by m t i j y x ≡ product m (suc t) (factor m i j) y x
unfolding product grown_by
grown_closed m zero i j y x p lj hy hx =
    let y_alone : y % m ≡ y = mod-eq_of_lt (omega (arith, rw (pow-suc, pow-zero) at hy)) in
    let x_alone : x % m ≡ x = mod-eq_of_lt (omega (arith, rw (pow-suc, pow-zero) at hx)) in
    grind (arith, nat_tests)
grown_closed m (suc t) i j y x p lj hy hx =
    let front_y = front_lt m (suc t) y p hy in
    let front_x = front_lt m (suc t) x p hx in
    let old : j ≤ t + 1 → grown_by m t i j (y / m) (x / m) ≡ product m (suc t) (factor m i j) (y / m) (x / m) = λ l. grown_closed m t i j (y / m) (x / m) p l front_y front_x in
    let last = grown_closed m t i (t + 1) (y / m) (x / m) p (omega arith) front_y front_x in
    let same : t + 2 ≤ j → product m (suc t) (factor m i (t + 1)) (y / m) (x / m) ≡ product m (suc t) (factor m i j) (y / m) (x / m) = λ l. product_ext m (suc t) (factor m i (t + 1)) (factor m i j) (y / m) (x / m) (λ s k. grind (arith, nat_tests)) in
    grind (arith, nat_tests)

-- an entry of a matrix of blocks is an entry of one of its blocks
pub same_entries : (m k : ℕ) (B C : Blocks) → 0 < m → ((i j y x : ℕ) → i < m → j < k → y < m ^ pred k → x < m ^ pred k → B i j y x ≡ C i j y x) → SameEntries m k B C
same_entries m k B C p e y x hy hx =
    let r : ℕ = m ^ pred k in
    let pr : 0 < r = one-le-pow (pred k) m p in
    e (y / r) (x / r) (y % r) (x % r) ((div-lt_iff_lt-mul pr).1 hy) ((div-lt_iff_lt-mul pr).1 hx) (mod-lt y pr) (mod-lt x pr)

pub grown_is_closed : (m k i j y x : ℕ) → 0 < m → 2 ≤ k → j < k → y < m ^ pred k → x < m ^ pred k → grown m k i j y x ≡ closed m k i j y x
grown_is_closed m k i j y x p l lj hy hx =
    let e : suc (k - 2) ≡ pred k = omega arith in
    rw e at (grown_closed m (k - 2) i j y x p (omega arith) (rw e hy) (rw e hx))

pub one_generator : ThreeWaysOneGenerator
one_generator m k p l = record {
  closed_form_is_by_place = same_entries m k (closed m k) (by_place m k) p (λ i j y x _ _. closed_place m (pred k) i j y x p);
  grown_is_closed_form = same_entries m k (grown m k) (closed m k) p (λ i j y x _. grown_is_closed m k i j y x p l);
}
