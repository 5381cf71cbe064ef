use Rattle.std.proofs.Common.{rules, ◌≡◌, drop, length, Some, sym, ap, ◌∙◌, arith}
use Rattle.std.proofs.lemmas.List.{take_at}
use Rattle.lists.specs.ReadingLists.{reading_list}
use Rattle.listing.specs.Line.{request_of}
use Rattle.listing.specs.Text.{places_text, request_text, counted_text}
use Rattle.listing.proofs.Texts.{list_alone}
use Rattle.listing.proofs.text.places.Goals as goal

pub returns : goal.returns
returns c =
    let q = c.in_ok-request.request in
    let vec = c.in_ok-places.places in
    let before = c.as_mut_slice.result.now in
    let after = c.list.new.places in
    let asked : request_of c.args.input.now ≡ Some q = search rules in
    let list : after ≡ reading_list q.m q.k q.lost q.list =
    list_alone q.m q.k q.lost q.list c.in_ok-count.field-0 before after c.in_ok-count.ensures (omega (arith, c.in_ok-places.ensures.len, c.as_mut_slice.ensures.len)) c.list.ensures.places in
    ap places_text (take_at after (drop (length after) vec.items) vec.len (omega (arith, c.list.auto.places, c.as_mut_slice.ensures.len)) ∙ list)
    ∙ sym (ap request_text asked ∙ ap (counted_text (reading_list q.m q.k q.lost q.list)) (sym c.in_ok-count.ensures))
