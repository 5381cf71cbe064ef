-- A place as it is printed. Assumes nothing.
use Rattle.std.specs.Prelude.{ℕ, List, ◌++◌, codes, decimal}
use Rattle.lists.specs.declared.place.Place.{Place}

-- the box, a space and the row
abbrev pub place_text : Place → List ℕ
place_text p = decimal p.box_number ++ (codes " " ++ decimal p.row)
