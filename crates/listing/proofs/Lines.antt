-- The reader of the input finds just the lines, and a line is short. Assumes nothing.
use Rattle.std.proofs.Common.{◌≡◌, ℕ, ◌<◌, ◌≤◌, false, List, [], ◌∷◌, ◌++◌, length, take, drop, Some, None, Option, sym, refl, ap, ◌∙◌, arith}
use Rattle.std.specs.List.{prefix_len, take_while, AllPass}
use Rattle.std.proofs.lemmas.List.{nil_from_length, take-append-drop, take_at, drop_at, length-append}
use Rattle.std.proofs.lemmas.List.Sums.{prefix_len_passes, prefix_len_is}
use Rattle.std.proofs.lemmas.Option.{option_and_then_some, cond_some}
use Rattle.std.proofs.lemmas.Grind.{common_steps}
use Rattle.std.proofs.lemmas.Bool.Decides.{nat_tests}
use Rattle.std.proofs.lemmas.Bool.{eqb-true}
use Rattle.lists.specs.declared.request.Request.{Request}
use Rattle.listing.specs.Line.{space, newline, most_digits, is_digit, value_of, Numeral, IsLineOf, field_at, field_of, request_of, ReaderFindsJustTheLines}
use Rattle.listing.specs.Text.{enough, request_text, FirstBytesDecide}

-- the digits at the front are digits
digits_first : (bytes : List ℕ) → AllPass is_digit (take_while is_digit bytes)
digits_first bytes k d l = grind (arith, common_steps, prefix_len_passes)

-- digits before a byte that is none
digits_end : (digits : List ℕ) (stop : ℕ) (rest : List ℕ) → AllPass is_digit digits → is_digit stop ≡ false → prefix_len is_digit (digits ++ stop ∷ rest) ≡ length digits
digits_end digits stop rest all none =
    prefix_len_is is_digit (digits ++ stop ∷ rest) (length digits) 0 (grind (arith, common_steps)) (grind (arith, common_steps)) (grind (arith, common_steps))

field_of_numeral : (digits : List ℕ) (stop : ℕ) (rest : List ℕ) → Numeral digits → is_digit stop ≡ false → field_of stop (digits ++ stop ∷ rest) ≡ Some (value_of digits, rest)
field_of_numeral digits stop rest num none =
    let n = length digits in
    rw (digits_end digits stop rest num.all_digits none, take_at digits (stop ∷ rest) n refl, drop_at digits (stop ∷ rest) n refl) (grind (arith, nat_tests))

-- what a field that was found says of the bytes
pub record Field (stop : ℕ) (bytes : List ℕ) (v : ℕ) (rest : List ℕ) : Type 0 where
  pub digits : List ℕ
  pub numeral : Numeral digits
  pub spelled : bytes ≡ digits ++ stop ∷ rest
  pub value : v ≡ value_of digits

at_tells : (stop : ℕ) (digits bytes : List ℕ) (x : ℕ × List ℕ) → field_at stop digits bytes ≡ Some x
    → (1 ≤ length digits) × (length digits ≤ most_digits) × (bytes ≡ stop ∷ x.1) × (x.0 ≡ value_of digits)
at_tells stop digits [] x e = cc
at_tells stop digits (b ∷ rest) x e = grind (arith, nat_tests, cond_some)

field_tells : (stop : ℕ) (bytes : List ℕ) (x : ℕ × List ℕ) → field_of stop bytes ≡ Some x → Field stop bytes x.0 x.1
field_tells stop bytes x e =
    let n = prefix_len is_digit bytes in
    let h = at_tells stop (take n bytes) (drop n bytes) x e in
    record {
      digits = take n bytes;
      numeral = record { all_digits = digits_first bytes; some_digit = h.0; few_digits = h.1 };
      spelled = cc (take-append-drop n bytes);
      value = h.3;
    }

read_is_line : (input : List ℕ) (q : Request) → request_of input ≡ Some q → IsLineOf input q
read_is_line input q e =
    option_and_then_some _ (field_of space input) q e λ m e_m r_m.
    option_and_then_some _ (field_of space m.1) q r_m λ k e_k r_k.
    option_and_then_some _ (field_of space k.1) q r_k λ lost e_lost r_lost.
    option_and_then_some _ (field_of newline lost.1) q r_lost λ list e_list r_list.
    let f_m = field_tells space input m e_m in
    let f_k = field_tells space m.1 k e_k in
    let f_lost = field_tells space k.1 lost e_lost in
    let f_list = field_tells newline lost.1 list e_list in
    let z = cond_some _ _ _ r_list in
    let none_left = nil_from_length list.1 (eqb-true _ _ z.0) in
    record {
      first = f_m.digits;
      second = f_k.digits;
      third = f_lost.digits;
      fourth = f_list.digits;
      first_number = f_m.numeral;
      second_number = f_k.numeral;
      third_number = f_lost.numeral;
      fourth_number = f_list.numeral;
      spelled = cc;
      values = cc;
    }

line_is_read : (input : List ℕ) (q : Request) → IsLineOf input q → request_of input ≡ Some q
line_is_read input q line =
    rw (
      line.spelled,
      field_of_numeral line.first space _ line.first_number refl,
      field_of_numeral line.second space _ line.second_number refl,
      field_of_numeral line.third space _ line.third_number refl,
      field_of_numeral line.fourth newline _ line.fourth_number refl,
    ) (ap Some (sym line.values))

pub reader_finds_just_the_lines : ReaderFindsJustTheLines
reader_finds_just_the_lines input q = (read_is_line input q, line_is_read input q)

-- four numerals of five digits, three spaces and a newline
line_short : (input : List ℕ) (q : Request) → IsLineOf input q → length input < enough
line_short input q line = omega (arith, ap length line.spelled, length-append {A = ℕ})

long_is_no_line : (input : List ℕ) → enough ≤ length input → request_of input ≡ None
long_is_no_line input l = go (request_of input) refl
  where
    go : (o : Option Request) → request_of input ≡ o → o ≡ None
    go None e = refl
    go (Some q) e = let short = line_short input q (read_is_line input q e) in absurd (omega arith)

pub first_bytes_decide : FirstBytesDecide enough
first_bytes_decide input more l =
    ap request_text (long_is_no_line (input ++ more) (omega (arith, length-append input more)) ∙ sym (long_is_no_line input l))
