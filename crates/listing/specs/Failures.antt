-- The places that an input asks for, or why there are none. Assumes nothing.
use Rattle.std.specs.Prelude.{◌≡◌, List, ℕ, ◌++◌, codes}
use Rattle.refusal.specs.Numbers.{refusal_text}
use Rattle.listing.specs.declared.failure.Failure.{Failure}
use Rattle.listing.specs.declared.failure.Failure.TheVariants.{Refused, OutOfMemory}
use Rattle.listing.specs.Text.{answer_text}

abbrev pub RefusedIn : List ℕ → Failure → Type 0
RefusedIn input (Refused refusal) = refusal_text refusal ++ codes "\n" ≡ answer_text input
RefusedIn input (OutOfMemory error) = Unit {0}
