use Rattle.std.proofs.Common.{◌≡◌, ℕ, ◌<◌, cond, ltb, length, get_or}
use Rattle.code.specs.Rows.{held, low}
use Rattle.code.proofs.pair.Pair.lowered.Given as goal

-- of the items, those before the index are lowered, and the others are as they were
abbrev pub invariant-loop-digit : goal.invariant-loop-digit
invariant-loop-digit l =
    (s : ℕ) → s < length l.digit-items
    → get_or l.digit-items s 0 ≡ cond (ltb s l.digit-index) (low l.self.m l.i (held l.fn.digits s)) (held l.fn.digits s)
