use Rattle.std.proofs.Common.{◌++◌}
use Rattle.std.proofs.lemmas.Iterator.{YieldsList}
use Rattle.lists.specs.ReadingLists.{rows_where, places_where}
use Rattle.lists.specs.Readings.{given_by}
use Rattle.lists.proofs.Laying.{Laid}
use Rattle.lists.proofs.reading.Reading.fill.Given as goal

-- the places of the boxes before this one are written
abbrev pub invariant-loop-b : goal.invariant-loop-b
invariant-loop-b l = Laid (places_where (given_by l.self) l.r l.b-counter) l.initial.places l.places l.count

-- and those of this box that its rows have yielded
abbrev pub invariant-loop-place : goal.invariant-loop-place
invariant-loop-place l = record {
  chain : YieldsList goal.iterator-loop-place.next_gives (λ x. x) l.initial.place-iterator (rows_where (given_by l.self l.b-counter) l.b-counter l.r);
  laid : Laid (places_where (given_by l.self) l.r l.b-counter ++ l.yielded) l.fn.places l.places l.count;
}
