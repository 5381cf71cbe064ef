use Rattle.std.proofs.Common.{arith}
use Rattle.std.proofs.lemmas.Bool.Decides.{nat_tests}
use Rattle.code.proofs.Digits.{digit_lt}
use Rattle.code.proofs.Places.{low_lt}
use Rattle.code.proofs.Answering.{pair_admitted, folded_place}
use Rattle.code.proofs.pair.Pair.place.Goals as goal

pub returns-then-i-self : goal.returns-then-i-self
returns-then-i-self c = grind (arith, nat_tests, pair_admitted)

pub lowered-digits-requires-clause-digits_below_m : goal.lowered-digits-requires-clause-digits_below_m
lowered-digits-requires-clause-digits_below_m c t = grind (arith, digit_lt, c.digits.ensures t)

pub folded-requires : goal.folded-requires
folded-requires c t = grind (arith, digit_lt, low_lt, c.digits.ensures t, c.lowered-digits.ensures t)

pub returns : goal.returns
returns c =
    let found = folded_place _ _ _ _ _ _ _ c.digits.ensures c.lowered-digits.ensures in
    grind (arith, nat_tests, pair_admitted)
