use Rattle.std.proofs.Common.{ℕ, ◌-◌, length-take, sub-one, arith}
use Rattle.code.specs.Pairs.{most_data}
use Rattle.code.proofs.Turns.{written_more, all_written}
use Rattle.code.proofs.pair.Pair.digits.Goals as goal

pub loop-digit-preserved : goal.loop-digit-preserved
loop-digit-preserved c = written_more c.args.self.now.m c.args.y c.loop-digit.digit-index c.loop-digit.rest c.loop-digit.digit-items c.loop-digit.invariant (omega arith)

pub returns : goal.returns
returns c t =
    let p = c.args.self.now in
    let l = c.loop-digit in
    rw sub-one (rw sub-one at (all_written p.m (p.k - 1) c.args.y l.digit-index l.rest t l.digit-items c.reverse.new.self (omega arith) l.invariant (omega (arith, length-take {A = ℕ})) (omega (arith, length-take {A = ℕ})) most_data c.reverse.ensures.after))
