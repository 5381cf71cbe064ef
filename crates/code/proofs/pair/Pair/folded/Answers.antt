use Rattle.std.proofs.Common.{rules, ◌≡◌, ℕ, ◌+◌, ◌*◌, ◌-◌, map, take, Some, refl, ap, ◌∙◌, arith}
use Rattle.std.specs.List.{fold}
use Rattle.std.proofs.lemmas.Fn.{serves_by}
use Rattle.std.proofs.lemmas.Grind.{common_steps}
use Rattle.std.proofs.lemmas.Iterator.{YieldsList-from_slice}
use Rattle.std.proofs.lemmas.Iterator.Consumers.{YieldsList-so_far, YieldsList-turn}
use Rattle.code.proofs.Turns.{next_few, folded_first}
use Rattle.code.proofs.pair.Pair.folded.Goals as goal

pub fold-requires-clause-callable : goal.fold-requires-clause-callable
fold-requires-clause-callable c =
    let p = c.args.self.now in
    let folding = λ (y d : ℕ). y * p.m + d in
    let line = YieldsList-from_slice {s = c.iter.result} (take (p.k - 1) c.args.digits) cc in
    serves_by _ (λ xs q. (q.0 ≡ record { 0 = c.args.self }) × (q.1 ≡ fold folding 0 (map (λ b. b.now) xs)))
    (λ xs q x v j r. search (rules, common_steps))
    _ _ _ _ (refl, refl)
    (λ xs t q x u before step j.
    let here = YieldsList-turn line xs t before (Some x) u x refl step in
    let few = next_few p c.args.digits _ q.1 x.now c.requires here.0 (j.1 ∙ ap (fold folding 0) (YieldsList-so_far line xs t before)) here.1 in
    search (rules, few, j.0))

pub returns : goal.returns
returns c =
    let p = c.args.self.now in
    let folded : c.fold.result ≡ fold (λ y d. y * p.m + d) 0 (take (p.k - 1) c.args.digits) = search rules in
    grind (arith, folded_first p.m (p.k - 1) c.args.digits)
