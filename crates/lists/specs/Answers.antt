-- What the calls of this crate answer, refusals with it, and what they leave in the caller's list. Assumes nothing.
use Rattle.std.specs.Prelude.{ℕ, ◌+◌, cond, List, ◌++◌, length, drop, Ok, Err, Result, nat_le, nat_lt}
use Rattle.code.specs.Pairs.{admitted}
use Rattle.lists.specs.declared.place.Place.{Place}
use Rattle.lists.specs.ReadingLists.{reading_list, lists_of}

-- the length of list c of the lost box f, for a pair that is admitted
abbrev pub count_for : ℕ → ℕ → ℕ → ℕ → Result ℕ ℕ
count_for m k f c =
    cond (nat_lt f (m + k)) (cond (nat_lt c (lists_of m k f)) (Ok (length (reading_list m k f c))) (Err 16)) (Err 8)

abbrev pub count_answer : ℕ → ℕ → ℕ → ℕ → Result ℕ ℕ
count_answer m k f c = cond (admitted m k) (count_for m k f c) (Err 2)

-- a count that has to find room
abbrev pub in_room : ℕ → Result ℕ ℕ → Result ℕ ℕ
in_room room (Ok n) = cond (nat_le n room) (Ok n) (Err 17)
in_room room (Err e) = Err e

abbrev pub list_answer : ℕ → ℕ → ℕ → ℕ → ℕ → Result ℕ ℕ
list_answer m k f c room = in_room room (count_answer m k f c)

-- the reading list, and after it the entries as they were; a refusal leaves all of them
abbrev pub filled : List Place → List Place → Result ℕ ℕ → List Place
filled list places (Ok n) = list ++ drop n places
filled list places (Err e) = places

abbrev pub list_after : ℕ → ℕ → ℕ → ℕ → List Place → List Place
list_after m k f c places = filled (reading_list m k f c) places (list_answer m k f c (length places))
