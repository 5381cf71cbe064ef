use Rattle.std.proofs.Common.{rules, tests, ◌+◌, ◌<◌, ◌++◌, length, refl, ap, append_assoc, length-append, append-nil, arith}
use Rattle.std.proofs.lemmas.List.{map-id}
use Rattle.std.proofs.lemmas.Iterator.{YieldsList-from_range, YieldsList-from_map}
use Rattle.std.proofs.lemmas.Iterator.Consumers.{YieldsList-from_filter, YieldsList-at, YieldsList-turn, YieldsList-end}
use Rattle.lists.specs.ReadingLists.{place_at, rows_where, places_where}
use Rattle.lists.specs.Readings.{given_by}
use Rattle.lists.proofs.Laying.{passes, rows_pass, places_more, places_le, laid_more}
use Rattle.lists.proofs.reading.Reading.fill.Goals as goal

pub loop-b-init : goal.loop-b-init
unfolding places_where
loop-b-init c = record { list_first = refl; counted = refl }

-- the chain yields the places of the box that the list has
pub loop-place-init : goal.loop-place-init
loop-place-init c =
    let l = c.args.self.now in
    let r = l.pair.r in
    record {
      chain = rw (← rows_pass (given_by l) c.loop-b.b-counter r)
          (YieldsList-at c.into_iter-place-iterator.ensures.into_iter_gives
          (YieldsList-from_filter _ (passes (given_by l))
          (YieldsList-at c.filter-place-items.ensures.source
          (YieldsList-from_map {s = c.map-rows.result} _ (place_at c.loop-b.b-counter) (YieldsList-from_range 0 r r (search (rules, tests)) (omega arith)) c.map-rows.ensures.closure (λ row place f called. search (rules, tests))))
          c.filter-place-items.ensures.closure (λ x t q k. search (rules, tests))));
      laid = rw append-nil c.loop-b.invariant;
    }

-- where this row of the box has its place in the list, the caller's places have room
room : (c : goal.In-Some) → c.loop-place.count < length c.args.places.now
room c =
    let l = c.args.self.now in
    let p = given_by l in
    let b = c.loop-b.b-counter in
    let turn = (YieldsList-turn c.loop-place.invariant.chain c.loop-place.yielded _ c.loop-place.yielded_by _ _ c.in-Some.place c.in-Some.is c.next.ensures.steps).0 in
    omega (arith, c.requires, c.loop-place.invariant.laid.counted, length-append (places_where p l.pair.r b) c.loop-place.yielded, ap length (places_more p l.pair.r b), length-append (places_where p l.pair.r b) (rows_where (p b) b l.pair.r), places_le p l.pair.r (b + 1) (l.pair.m + l.pair.k) (omega arith))

pub bounds-places-count : goal.bounds-places-count
bounds-places-count c = omega (arith, room c, c.loop-place.auto.places, c.loop-b.auto.places)

pub loop-place-preserved : goal.loop-place-preserved
loop-place-preserved c =
    let p = given_by c.args.self.now in
    let before = places_where p c.args.self.now.pair.r c.loop-b.b-counter in
    record {
      chain = c.loop-place.invariant.chain;
      laid = rw append_assoc at (laid_more (before ++ c.loop-place.yielded) c.args.places.now c.loop-place.places c.loop-place.count c.in-Some.place c.loop-place.invariant.laid (room c));
    }

-- at its end all rows of the box were yielded
pub loop-b-preserved : goal.loop-b-preserved
loop-b-preserved c =
    let p = given_by c.args.self.now in
    let all = (YieldsList-end c.loop-place.invariant.chain c.loop-place.yielded _ c.loop-place.yielded_by _ _ c.in-None.is c.next.ensures.steps).0 in
    rw (places_more, ← all, map-id) c.loop-place.invariant.laid
