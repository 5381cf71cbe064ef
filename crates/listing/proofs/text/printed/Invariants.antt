use Rattle.std.proofs.Common.{◌≡◌, ◌++◌, take, codes, string_bytes}
use Rattle.std.specs.List.{flat_map}
use Rattle.listing.specs.Text.{place_line}
use Rattle.listing.proofs.text.printed.Given as goal

-- the heading and the lines of the places so far
abbrev pub invariant-loop-place : goal.invariant-loop-place
invariant-loop-place l = string_bytes l.text ≡ codes "box row\n" ++ flat_map place_line (take l.place-index l.places)
