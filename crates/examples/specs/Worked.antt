-- The worked examples, one list. Assumes nothing.
use Rattle.std.specs.Prelude.{◌≡◌, ℕ, List, [], ◌∷◌, map, length, Ok, codes}
use Rattle.std.specs.List.{flat_map, All}
use Rattle.code.specs.Answers.{place_answer}
use Rattle.lists.specs.declared.place.Place.{Place}
use Rattle.lists.specs.ReadingLists.{place_at, reading_list}
use Rattle.lists.specs.Answers.{count_answer}
use Rattle.listing.specs.Text.{answer_text}

pub data Example : Type 0 where
  -- place(m, k, i, j, y) is a row
  place_is : (m k i j y x : ℕ) → Example
  -- list c of the lost box f has these boxes, each with its rows
  list_is : (m k f c : ℕ) → List (ℕ × List ℕ) → Example
  -- the program prints a text for an input
  prints : List ℕ → List ℕ → Example

-- the places of boxes with their rows
abbrev pub places : List (ℕ × List ℕ) → List Place
places boxes = flat_map (λ box. map (place_at box.0) box.1) boxes

-- the definitions give the example
abbrev pub Given : Example → Type 0
Given (place_is m k i j y x) = place_answer m k i j y ≡ Ok x
Given (list_is m k f c boxes) = (reading_list m k f c ≡ places boxes) × (count_answer m k f c ≡ Ok (length (places boxes)))
Given (prints input text) = answer_text input ≡ text

abbrev nines : List ℕ
nines = 2 ∷ 3 ∷ 7 ∷ 11 ∷ 12 ∷ 16 ∷ 20 ∷ 21 ∷ 25 ∷ []

abbrev pub worked : List Example
worked =
    place_is 2 3 1 1 0 2
    ∷ place_is 2 3 1 2 0 3
    ∷ place_is 3 3 2 1 5 8
    ∷ place_is 3 3 2 2 5 6
    ∷ list_is 2 3 0 0 ((1, 0 ∷ 1 ∷ []) ∷ (2, 0 ∷ 1 ∷ []) ∷ (3, 0 ∷ 1 ∷ []) ∷ (4, 2 ∷ 3 ∷ []) ∷ [])
    ∷ list_is 3 4 2 1 ((0, nines) ∷ (1, nines) ∷ (3, nines) ∷ (4, nines) ∷ (5, nines) ∷ (6, nines) ∷ [])
    ∷ prints (codes "2 3 1 0\n") (codes "box row\n0 0\n0 3\n2 0\n2 3\n3 0\n3 3\n4 0\n4 3\nblocks 8\n")
    ∷ []

abbrev pub WorkedExamplesGiven : Type 0
WorkedExamplesGiven = All Given worked
