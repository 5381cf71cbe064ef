-- The laws of place. Assumes nothing.
use Rattle.std.proofs.Common.{◌≡◌, ℕ, pred, ◌+◌, ◌-◌, ◌%◌, ◌^◌, ◌<◌, ◌≤◌, Bool, true, false, cond, ltb, ◌⊎◌, sym, refl, ap, ◌∙◌, add-zero, mod-lt, mod-eq_of_lt, add_comm, zero-add, arith}
use native.Mathlib.Nat.{mod-eq-sub-mod}
use Rattle.std.proofs.lemmas.Bool.Decides.{nat_tests}
use Rattle.code.specs.Rows.{digit, low, up, changed, moved, place}
use Rattle.code.specs.PlaceLaws.{PlaceLawsHold}
use Rattle.code.proofs.Digits.{digit_lt, digit_moved, moved_lt, moved_after, Keeps, digit_ext}

-- the number that stands for a modulo m, where a is below 2 m: for `omega`, which knows no remainder by a variable
pub wrap_is : (a m : ℕ) → 0 < m → a < m + m → ((a < m) × (a % m ≡ a)) ⊎ ((m ≤ a) × (a % m + m ≡ a))
wrap_is a m p h =
    let below : a < m → a % m ≡ a = λ l. mod-eq_of_lt l in
    let over : m ≤ a → a % m ≡ a - m = λ l. mod-eq-sub-mod l ∙ mod-eq_of_lt (omega arith) in
    grind arith

-- what lowering and raising do to a digit
pub low_is : (m i a : ℕ) → a < m → i ≤ m → ((i ≤ a) × (low m i a + i ≡ a)) ⊎ ((a < i) × (low m i a + i ≡ a + m))
low_is m i a h l = grind (arith, wrap_is (a + (m - i)) m)

pub low_lt : (m i : ℕ) → 0 < m → Keeps m (low m i)
low_lt m i p a _ = mod-lt (a + (m - i)) p

pub up_lt : (m i : ℕ) → 0 < m → Keeps m (up m i)
up_lt m i p a _ = mod-lt (a + i) p

up_is : (m i a : ℕ) → a < m → i ≤ m → ((a + i < m) × (up m i a ≡ a + i)) ⊎ ((m ≤ a + i) × (up m i a + m ≡ a + i))
up_is m i a h l = wrap_is (a + i) m (omega arith) (omega arith)

up_low : (m i a : ℕ) → i ≤ m → a < m → up m i (low m i a) ≡ a
up_low m i a l h = grind (arith, low_is m i a, low_lt m i, up_is m i (low m i a))

low_up : (m i a : ℕ) → i ≤ m → a < m → low m i (up m i a) ≡ a
low_up m i a l h = grind (arith, up_is m i a, up_lt m i, low_is m i (up m i a))

pub low_none : (m a : ℕ) → a < m → low m 0 a ≡ a
low_none m a h = omega (arith, low_is m 0 a h (omega arith))

low_add : (m h i a : ℕ) → h < m → i < m → a < m → low m h (low m i a) ≡ low m ((h + i) % m) a
low_add m h i a hm im am =
    grind (arith, low_is m i a, low_lt m i, low_is m h (low m i a), low_lt m h, low_is m ((h + i) % m) a, low_lt m ((h + i) % m), wrap_is (h + i) m, mod-lt (h + i))

low_swap : (m h i a : ℕ) → h < m → i < m → a < m → low m h (low m i a) ≡ low m i (low m h a)
low_swap m h i a hm im am = low_add m h i a hm im am ∙ ap (λ s. low m (s % m) a) (add_comm h i) ∙ sym (low_add m i h a im hm am)

-- a change that leaves each digit alone leaves the row alone, and a change that undoes another brings the row back
moved_same : (m n : ℕ) (g : ℕ → ℕ) (j y : ℕ) → 0 < m → Keeps m g → y < m ^ n → ((t : ℕ) → t < n → changed m n g j y t ≡ digit m n t y) → moved m n g j y ≡ y
moved_same m n g j y p k lt e =
    digit_ext m n _ y p (moved_lt m n g j y p k) lt (λ t l. digit_moved m n g j y t p k l ∙ e t l)

moved_back : (m n : ℕ) (g h : ℕ → ℕ) (j y : ℕ) → 0 < m → Keeps m g → Keeps m h → ((a : ℕ) → a < m → h (g a) ≡ a) → y < m ^ n → moved m n h j (moved m n g j y) ≡ y
moved_back m n g h j y p kg kh back lt =
    moved_after m n g h j j y y p kg kh lt (λ t _. grind (arith, nat_tests, back (digit m n t y), digit_lt m n t y p))

-- a digit after two lowerings
twice : (m n h i j l y t : ℕ) → 0 < m → t < n
    → digit m n t (place m n h j (place m n i l y)) ≡ cond (ltb t j) (low m h (cond (ltb t l) (low m i (digit m n t y)) (digit m n t y))) (cond (ltb t l) (low m i (digit m n t y)) (digit m n t y))
twice m n h i j l y t p lt =
    digit_moved m n (low m h) j (place m n i l y) t p (low_lt m h p) lt
    ∙ ap (λ d. cond (ltb t j) (low m h d) d) (digit_moved m n (low m i) l y t p (low_lt m i p) lt)

summed : (m h i : ℕ) (b c : Bool) (a : ℕ) → h < m → i < m → a < m
    → cond b (low m h (cond c (low m i a) a)) (cond c (low m i a) a) ≡ low m ((cond b h 0 + cond c i 0) % m) a
summed m h i true true a hm im am = low_add m h i a hm im am
summed m h i true false a hm im am = rw (add-zero, mod-eq_of_lt hm)
summed m h i false true a hm im am = rw (zero-add, mod-eq_of_lt im)
summed m h i false false a hm im am = let z : 0 % m ≡ 0 = mod-eq_of_lt (omega arith) in rw z (sym (low_none m a am))

same_twice : (m h i : ℕ) (b c : Bool) (a : ℕ) → h < m → i < m → a < m
    → cond b (low m h (cond c (low m i a) a)) (cond c (low m i a) a) ≡ cond c (low m i (cond b (low m h a) a)) (cond b (low m h a) a)
same_twice m h i true true a hm im am = low_swap m h i a hm im am
same_twice m h i true false a hm im am = refl
same_twice m h i false c a hm im am = refl

added : (m h i : ℕ) (b : Bool) (a : ℕ) → h < m → i < m → a < m
    → cond b (low m h (cond b (low m i a) a)) (cond b (low m i a) a) ≡ cond b (low m ((h + i) % m) a) a
added m h i b a hm im am = grind (arith, low_add m h i a hm im am)

pub place_laws : PlaceLawsHold
place_laws m k p _ = record {
  place_is_a_row = λ i j y _ _. moved_lt m n (low m i) j y p (low_lt m i p);
  raised_is_a_row = λ i j y _ _. moved_lt m n (up m i) j y p (up_lt m i p);
  raising_undoes_lowering = λ i j y l h. moved_back m n (low m i) (up m i) j y p (low_lt m i p) (up_lt m i p) (λ a. up_low m i a (omega arith)) h;
  lowering_undoes_raising = λ i j y l h. moved_back m n (up m i) (low m i) j y p (up_lt m i p) (low_lt m i p) (λ a. low_up m i a (omega arith)) h;
  lowering_by_nothing_moves_no_row = λ j y h. moved_same m n (low m 0) j y p (low_lt m 0 p) h
      (λ t _. grind (arith, low_none m (digit m n t y) (digit_lt m n t y p)));
  lowering_no_digit_moves_no_row = λ i y h. moved_same m n (low m i) 0 y p (low_lt m i p) h (λ t _. grind (arith, nat_tests));
  lowering_twice_adds_up = λ h i j y hm im lt. let s : ℕ = (h + i) % m in
      digit_ext m n _ _ p (moved_lt m n (low m h) j (place m n i j y) p (low_lt m h p)) (moved_lt m n (low m s) j y p (low_lt m s p))
      (λ t l. twice m n h i j j y t p l ∙ added m h i (ltb t j) (digit m n t y) hm im (digit_lt m n t y p) ∙ sym (digit_moved m n (low m s) j y t p (low_lt m s p) l));
  lowerings_add_up_digit_by_digit = λ h i j l y t hm im lt.
      twice m n h i j l y t p lt ∙ summed m h i (ltb t j) (ltb t l) (digit m n t y) hm im (digit_lt m n t y p);
  lowerings_change_places = λ h i j l y hm im lt.
      digit_ext m n _ _ p (moved_lt m n (low m h) j (place m n i l y) p (low_lt m h p)) (moved_lt m n (low m i) l (place m n h j y) p (low_lt m i p))
      (λ t lt'. twice m n h i j l y t p lt' ∙ same_twice m h i (ltb t j) (ltb t l) (digit m n t y) hm im (digit_lt m n t y p) ∙ sym (twice m n i h l j y t p lt'));
  first_digits_are_lowered = λ i j y t _ l h. grind (arith, nat_tests, digit_moved m n (low m i) j y t p (low_lt m i p) l);
  later_digits_stay = λ i j y t _ l h. grind (arith, nat_tests, digit_moved m n (low m i) j y t p (low_lt m i p) l);
}
  where
    n : ℕ
    n = pred k
