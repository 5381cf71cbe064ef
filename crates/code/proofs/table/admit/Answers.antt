use Rattle.std.proofs.Common.{◌≡◌, false, MatchOption, rules, tests}
use Rattle.std.specs.Option.{option_map}
use Rattle.std.proofs.lemmas.Iterator.{YieldsList-from_slice}
use Rattle.std.proofs.lemmas.Iterator.Search.{find_from_yields_List}
use Rattle.code.specs.Pairs.{admitted, IsAdmitted}
use Rattle.code.proofs.Tables.{is_for, found}
use Rattle.code.proofs.table.admit.Goals as goal
use Rattle.code.proofs.table.admit.Goals.{After-find}

-- what the search of the table found
searched : (c : After-find) → MatchOption (option_map (λ p. p.now) c.find.result) (admitted c.args.m c.args.k ≡ false) (λ p. IsAdmitted c.args.m c.args.k p.r)
searched c =
    found c.pairs-table.result c.args.m c.args.k _ c.pairs-table.ensures
    (find_from_yields_List (is_for c.args.m c.args.k) _ _ _ c.find.ensures.ran (YieldsList-from_slice c.pairs-table.result cc) (λ x b q k. search (rules, tests)))

pub invariant_of-result : goal.invariant_of-result
invariant_of-result c = record { admitted = rw c.in_ok-sizes.ensures.ok_part at (searched (goal.at.invariant_of-result c).After-find) }

pub returns-in_err-sizes : goal.returns-in_err-sizes
returns-in_err-sizes c =
    let refused = rw c.in_err-sizes.ensures.ok_part at (searched (goal.at.returns-in_err-sizes c).After-find) in
    search (rules, refused)
