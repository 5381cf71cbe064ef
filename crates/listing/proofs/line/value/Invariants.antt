use Rattle.std.proofs.Common.{◌≡◌, ◌^◌, ◌<◌, take}
use Rattle.listing.specs.Line.{value_of}
use Rattle.listing.proofs.line.value.Given as goal

abbrev pub invariant-loop-b : goal.invariant-loop-b
invariant-loop-b l = (l.value ≡ value_of (take l.b-index l.digits)) × (l.value < 10 ^ l.b-index)
