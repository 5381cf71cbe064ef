use Rattle.std.proofs.Common.{refl}
use Rattle.std.specs.Fmt.{digits}
use Rattle.std.proofs.lemmas.List.Elements.{All-from_recursion}
use Rattle.examples.specs.Worked.{Given, worked}
use Rattle.code.specs.Pairs.{rows_of, admitted}
use Rattle.code.specs.Rows.{digit, row, moved}
use Rattle.lists.specs.ReadingLists.{gives, rows_where, places_where, reading_list}
use Rattle.examples.proofs.definitions_give_the_worked_examples.Goals as goal

pub returns : goal.returns
unfolding digits rows_of admitted digit row moved gives rows_where places_where reading_list
returns c = All-from_recursion Given worked (refl, (refl, (refl, (refl, ((refl, refl), ((refl, refl), (refl, tt)))))))
