-- What the table of the admitted pairs holds. Assumes nothing.
use Rattle.std.specs.Prelude.{◌≡◌, ℕ, Bool, ◌&&◌, List, ◌++◌, map, length, ◌==◌}
use Rattle.std.specs.List.{range_with_len, list_any, All}
use Rattle.code.specs.declared.sizes.Sizes.{Sizes}
use Rattle.code.specs.Pairs.{rows_of, admitted}

-- whether the table has an entry for m and k
abbrev pub has : List Sizes → ℕ → ℕ → Bool
has table m k = list_any (λ p. p.m == m && p.k == k) table

-- the pairs with m parity boxes and n numbers of data boxes from 2 on
abbrev pub pairs_of : ℕ → ℕ → List Sizes
pairs_of m n = map (λ k. record { m = m; k = k; r = rows_of m k }) (range_with_len 2 n)

pub record TableRule (table : List Sizes) : Type 0 where
  -- k from 2 to 11, to 7 and to 6
  pub in_order : table ≡ pairs_of 2 10 ++ (pairs_of 3 6 ++ pairs_of 4 5)
  pub there_are_21 : length table ≡ 21
  pub each_r_is_the_power : All (λ p. p.r ≡ rows_of p.m p.k) table
  pub holds_exactly_the_admitted : (m k : ℕ) → has table m k ≡ admitted m k
