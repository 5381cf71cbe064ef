-- A caller's list with just the room that its reading list needs. Assumes nothing.
use Rattle.std.proofs.Common.{◌≡◌, ℕ, leb, List, ◌++◌, length, Ok, Err, sym, ap, ◌∙◌, arith}
use Rattle.std.proofs.lemmas.List.{drop_all, append-nil}
use Rattle.std.proofs.lemmas.Bool.{cond-true, le-leb}
use Rattle.lists.specs.declared.place.Place.{Place}
use Rattle.lists.specs.ReadingLists.{reading_list}
use Rattle.lists.specs.Answers.{count_answer, in_room, filled, list_after}

-- it is the reading list, and nothing after it
pub list_alone : (m k f c n : ℕ) (before after : List Place) → Ok n ≡ count_answer m k f c → length before ≡ n → after ≡ list_after m k f c before → after ≡ reading_list m k f c
list_alone m k f c n before after e l a =
    a ∙ ap (λ o. filled (reading_list m k f c) before (in_room (length before) o)) (sym e)
    ∙ ap (filled (reading_list m k f c) before) (cond-true (leb n (length before)) (Ok n) (Err 17) (le-leb n (length before) (omega arith)))
    ∙ ap (λ xs. reading_list m k f c ++ xs) (drop_all n before (omega arith)) ∙ append-nil (reading_list m k f c)
