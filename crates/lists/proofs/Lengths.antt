-- How long a reading list is. Assumes nothing.
use Rattle.std.proofs.Common.{◌≡◌, ℕ, zero, suc, pred, ◌+◌, ◌-◌, ◌/◌, ◌^◌, ◌<◌, ◌≤◌, Bool, false, cond, eqb, ltb, length, refl, ◌∙◌, ⊎_elim, mod-lt, mul-div_cancel, arith}
use Rattle.std.proofs.Math.Nat.{mul-sub}
use Rattle.std.proofs.lemmas.List.{length-append}
use Rattle.std.proofs.lemmas.Bool.{cases_eq}
use Rattle.std.proofs.lemmas.Bool.Decides.{nat_tests}
use Rattle.code.specs.Pairs.{rows_of}
use Rattle.lists.specs.ReadingLists.{first_digit_is, difference_is, gives, rows_where, places_where, reading_list}
use Rattle.lists.specs.ListLaws.{ListLawsHold}
use Rattle.lists.proofs.Sums.{total, count, count_ext, count_all, total_one, total_below}
use Rattle.lists.proofs.Giving.{gives_own, gives_other, gives_parity}
use Rattle.lists.proofs.Order.{places_rise, only_places, all_places}
use Rattle.lists.proofs.Shares.{one_more, digit_share, difference_share}

pub rows_length : (p : ℕ → Bool) (b n : ℕ) → length (rows_where p b n) ≡ count n p
unfolding rows_where total
rows_length p b zero = refl
rows_length p b (suc n) = rw (length-append, rows_length p b n) (grind arith)

-- by how many rows each box gives
pub places_length : (p : ℕ → ℕ → Bool) (r n : ℕ) (F : ℕ → ℕ) → ((b : ℕ) → count r (p b) ≡ F b) → length (places_where p r n) ≡ total n F
unfolding places_where total
places_length p r zero F e = refl
places_length p r (suc n) F e = rw (length-append, places_length p r n F e, rows_length, e n)

-- every other box gives one row in m
other_share : (m k f c b : ℕ) → 0 < m → 2 ≤ k → f < k → c < m → (b ≡ f → ⊥) → count (m ^ pred k) (gives m k f c b) ≡ m ^ pred (pred k)
other_share m k zero c b p hk hf hc ne =
    count_ext (m ^ pred k) (gives m k zero c b) (first_digit_is m k c b) (λ y _. gives_other m k zero c b y hf ne)
    ∙ digit_share m (pred k) 0 _ (grind (arith, nat_tests, mod-lt (c + (b - k)) p)) (omega arith)
other_share m k (suc g) c b p hk hf hc ne =
    count_ext (m ^ pred k) (gives m k (suc g) c b) (difference_is m k (suc g) c) (λ y _. grind (arith, nat_tests, gives_other m k (suc g) c b y hf ne))
    ∙ difference_share m (pred k) g c hc (omega arith)

pub box_share : (m k f c b : ℕ) → 0 < m → 2 ≤ k → f < k → c < m → count (rows_of m k) (gives m k f c b) ≡ cond (eqb b f) 0 (rows_of m k / m)
unfolding rows_of
box_share m k f c b p hk hf hc =
    ⊎_elim
    (λ e. count_all (m ^ pred k) _ false (λ y _. gives_own m k f c b y hf e) ∙ grind (arith, nat_tests))
    (λ ne. other_share m k f c b p hk hf hc ne ∙ grind (arith, nat_tests, one_more m (pred k) (omega arith), mul-div_cancel (m ^ pred (pred k)) p))
    (cases_eq b f)

pub list_laws : ListLawsHold
unfolding reading_list
list_laws m k p hk = record {
  data_box_takes_one_block_in_m = λ f c hf hc.
      let s : ℕ = rows_of m k / m in
      places_length _ _ (m + k) (λ b. cond (eqb b f) 0 s) (λ b. box_share m k f c b p hk hf hc)
      ∙ grind (arith, nat_tests, total_one (m + k) f 0 s, mul-sub s (m + k) 1);
  parity_box_takes_all_data = λ f c hf.
      let r : ℕ = rows_of m k in
      places_length _ _ (m + k) (λ b. cond (ltb b k) r 0) (λ b. count_all r _ (ltb b k) (λ y _. gives_parity m k f c b y hf) ∙ grind (arith, nat_tests))
      ∙ grind (arith, nat_tests, total_below (m + k) k r);
  boxes_rise_then_rows = λ f c. places_rise _ _ _;
  only_given_places = λ f c. only_places _ _ _;
  all_given_places = λ f c. all_places _ _ _;
}
