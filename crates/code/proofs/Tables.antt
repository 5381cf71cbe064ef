-- The rules of the table, each from one test that the checker computes over the whole table. Assumes nothing.
use Rattle.std.proofs.Common.{◌≡◌, ℕ, suc, ◌<◌, Bool, true, false, not, cond, ◌&&◌, ◌||◌, eqb, ◌++◌, List, [], ◌∷◌, length, get_or, Option, None, Some, MatchOption, refl, sym, ◌∙◌, zero-add, arith}
use Rattle.std.specs.List.{All, range_with_len, list_all, find}
use Rattle.std.proofs.lemmas.Bool.Decides.{nat_tests, same_from_decides}
use Rattle.std.proofs.lemmas.List.Elements.{All-head, All-tail}
use Rattle.std.proofs.lemmas.List.FromFn.{length-range_with_len, get_or-range_with_len}
use Rattle.std.proofs.lemmas.List.Sums.{AllPass-from_list_all}
use Rattle.code.specs.declared.sizes.Sizes.{Sizes}
use Rattle.code.specs.Pairs.{most_parity, most_data, rows_of, admitted, IsAdmitted}
use Rattle.code.specs.Table.{has, pairs_of, TableRule}
use Rattle.code.proofs.Admission.{admitted_true}

-- an entry's r is the power, and its pair is admitted
abbrev right : Sizes → Bool
right p = eqb p.r (rows_of p.m p.k) && admitted p.m p.k

powers : (table : List Sizes) → list_all right table ≡ true → All (λ p. p.r ≡ rows_of p.m p.k) table
powers table e k d l =
    let here : right (get_or table k d) ≡ true = AllPass-from_list_all right table e k d l in
    grind (arith, nat_tests)

-- an entry for m and k says that they are admitted
had_is_admitted : (table : List Sizes) (m k : ℕ) → list_all right table ≡ true → has table m k ≡ true → admitted m k ≡ true
had_is_admitted [] m k e h = cc
had_is_admitted (p ∷ table) m k e h = grind (arith, nat_tests, had_is_admitted table m k)

-- whether the table has m and k, if they are admitted
abbrev covers : List Sizes → ℕ → ℕ → Bool
covers table m k = not (admitted m k) || has table m k

abbrev covers_all : List Sizes → ℕ → ℕ → Bool
covers_all table a b = list_all (λ m. list_all (covers table m) (range_with_len 0 b)) (range_with_len 0 a)

-- a test that computes to true over all numbers below n, at one of them
below : (p : ℕ → Bool) (n k : ℕ) → list_all p (range_with_len 0 n) ≡ true → k < n → p k ≡ true
below p n k e l =
    let at = AllPass-from_list_all p (range_with_len 0 n) e k 0 (rw length-range_with_len l) in
    rw (get_or-range_with_len, zero-add) at at

-- what is admitted lies within the limits, and up to them the whole table was tested
admitted_is_had : (table : List Sizes) (m k : ℕ) → covers_all table (suc most_parity) (suc most_data) ≡ true → admitted m k ≡ true → has table m k ≡ true
admitted_is_had table m k e a =
    let limits = admitted_true m k (rows_of m k) a refl in
    let covered = below (covers table m) (suc most_data) k (below (λ m. list_all (covers table m) (range_with_len 0 (suc most_data))) (suc most_parity) m e (omega arith)) (omega arith) in
    grind arith

pub table_rule : (table : List Sizes) → table ≡ pairs_of 2 10 ++ (pairs_of 3 6 ++ pairs_of 4 5) → length table ≡ 21 → list_all right table ≡ true → covers_all table (suc most_parity) (suc most_data) ≡ true → TableRule table
table_rule table o n e c = record {
  in_order = o;
  there_are_21 = n;
  each_r_is_the_power = powers table e;
  holds_exactly_the_admitted = λ m k. same_from_decides (has table m k) (admitted m k) (had_is_admitted table m k e, admitted_is_had table m k c) (λ a. a, λ a. a);
}

-- what a search of the table asks of an entry
abbrev pub is_for : ℕ → ℕ → Sizes → Bool
is_for m k p = eqb p.m m && eqb p.k k

-- the first entry for m and k, if there is one
first_entry : (table : List Sizes) (m k : ℕ) → All (λ p. p.r ≡ rows_of p.m p.k) table
    → MatchOption (find (is_for m k) table) (has table m k ≡ false) (λ p. (has table m k ≡ true) × (p.r ≡ rows_of m k))
first_entry [] m k a = refl
first_entry (p ∷ table) m k a =
    let power : Sizes → Type 0 = λ p. p.r ≡ rows_of p.m p.k in
    let here : p.r ≡ rows_of p.m p.k = All-head power p table a in
    step (is_for m k p) (λ e. grind (arith, nat_tests)) (first_entry table m k (All-tail power p table a))
  where
    step : (b : Bool) → (b ≡ true → p.r ≡ rows_of m k) → MatchOption (find (is_for m k) table) (has table m k ≡ false) (λ q. (has table m k ≡ true) × (q.r ≡ rows_of m k))
        → MatchOption (cond b (Some p) (find (is_for m k) table)) ((b || has table m k) ≡ false) (λ q. ((b || has table m k) ≡ true) × (q.r ≡ rows_of m k))
    step true e _ = (refl, e refl)
    step false e rest = rest

-- what such a search finds
pub found : (table : List Sizes) (m k : ℕ) (r : Option Sizes) → TableRule table → r ≡ find (is_for m k) table → MatchOption r (admitted m k ≡ false) (λ p. IsAdmitted m k p.r)
found table m k None rule e = sym (rule.holds_exactly_the_admitted m k) ∙ (rw (← e) at (first_entry table m k rule.each_r_is_the_power))
found table m k (Some p) rule e =
    let first = rw (← e) at (first_entry table m k rule.each_r_is_the_power) in
    admitted_true m k p.r (sym (rule.holds_exactly_the_admitted m k) ∙ first.0) first.1
