-- The text that is printed for an input. Assumes nothing.
use Rattle.std.specs.Prelude.{◌≡◌, ℕ, ◌≤◌, List, ◌++◌, length, Some, None, Ok, Err, codes, decimal, Option, Result}
use Rattle.std.specs.List.{flat_map}
use Rattle.refusal.specs.Numbers.{refused_as}
use Rattle.lists.specs.declared.place.Place.{Place}
use Rattle.lists.specs.Places.{place_text}
use Rattle.lists.specs.ReadingLists.{reading_list}
use Rattle.lists.specs.Answers.{count_answer}
use Rattle.lists.specs.declared.request.Request.{Request}
use Rattle.listing.specs.Line.{request_of}

-- a line with `refused` and the number
abbrev pub refused_text : ℕ → List ℕ
refused_text number = refused_as number ++ codes "\n"

-- a line with box and row
abbrev pub place_line : Place → List ℕ
place_line p = place_text p ++ codes "\n"

-- the heading, a line for each place, and a line with `blocks` and the count
abbrev pub places_text : List Place → List ℕ
places_text places = codes "box row\n" ++ (flat_map place_line places ++ (codes "blocks " ++ (decimal (length places) ++ codes "\n")))

abbrev pub counted_text : List Place → Result ℕ ℕ → List ℕ
counted_text places (Ok n) = places_text places
counted_text places (Err e) = refused_text e

abbrev pub request_text : Option Request → List ℕ
request_text None = refused_text 19
request_text (Some q) = counted_text (reading_list q.m q.k q.lost q.list) (count_answer q.m q.k q.lost q.list)

-- the whole text
abbrev pub answer_text : List ℕ → List ℕ
answer_text input = request_text (request_of input)

-- a line has at most 24 bytes
abbrev pub enough : ℕ
enough = 25

-- the first n bytes of an input decide what is answered to it
abbrev pub FirstBytesDecide : ℕ → Type 0
FirstBytesDecide n = (input more : List ℕ) → n ≤ length input → answer_text (input ++ more) ≡ answer_text input
