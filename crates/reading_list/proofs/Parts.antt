-- The first bytes of an input are answered as all of it. Assumes nothing.
use Rattle.std.proofs.Common.{◌≡◌, ℕ, ◌≤◌, List, length, take, drop, ⊎_elim, sym, ap, ◌∙◌, arith}
use Rattle.std.proofs.lemmas.List.{take_all, take-append-drop, length-take-le}
use Rattle.std.proofs.lemmas.Bool.{cases_lt}
use Rattle.listing.specs.Text.{enough, answer_text}
use Rattle.listing.proofs.Lines.{first_bytes_decide}

pub part_decides : (bytes : List ℕ) → answer_text (take enough bytes) ≡ answer_text bytes
part_decides bytes = ⊎_elim (λ h. ap answer_text (take_all enough bytes (omega arith))) long (cases_lt (length bytes) enough)
  where
    long : enough ≤ length bytes → answer_text (take enough bytes) ≡ answer_text bytes
    long h =
        sym (first_bytes_decide (take enough bytes) (drop enough bytes) (omega (arith, length-take-le enough bytes h)))
        ∙ ap answer_text (take-append-drop enough bytes)
