-- What it means to be admitted. Assumes nothing.
use Rattle.std.proofs.Common.{◌≡◌, ℕ, pred, ◌^◌, ◌<◌, ◌≤◌, true, arith}
use native.Mathlib.Nat.{pow-le-pow_left, pow-le-pow_right}
use Rattle.std.proofs.lemmas.Bool.Decides.{nat_tests}
use Rattle.code.specs.Pairs.{most_rows, most_data, rows_of, admitted, IsAdmitted}

-- a wide pair has too many rows
pub wide_rows : (m k : ℕ) → 2 ≤ m → most_data < k → most_rows < rows_of m k
unfolding rows_of
wide_rows m k hm hk =
    let more : 2 ^ 11 ≤ 2 ^ pred k = pow-le-pow_right {n = 2} (omega arith) {i = 11} {j = pred k} (omega arith) in
    let larger : 2 ^ pred k ≤ m ^ pred k = pow-le-pow_left hm (pred k) in
    omega arith

-- the test of m and k says what a pair keeps, and the other way round
pub admitted_true : (m k r : ℕ) → admitted m k ≡ true → r ≡ rows_of m k → IsAdmitted m k r
unfolding admitted
admitted_true m k r a e = grind (arith, nat_tests, wide_rows)

pub true_admitted : (m k r : ℕ) → IsAdmitted m k r → admitted m k ≡ true
unfolding admitted
true_admitted m k r a = grind (arith, nat_tests)
