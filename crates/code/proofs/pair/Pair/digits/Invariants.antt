use Rattle.code.proofs.Turns.{Written}
use Rattle.code.proofs.pair.Pair.digits.Given as goal

abbrev pub invariant-loop-digit : goal.invariant-loop-digit
invariant-loop-digit l = Written l.self.m l.y l.digit-index l.rest l.digit-items
