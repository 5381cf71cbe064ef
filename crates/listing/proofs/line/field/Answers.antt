use Rattle.std.proofs.Common.{arith}
use Rattle.std.proofs.lemmas.Grind.{common_steps}
use Rattle.std.proofs.lemmas.List.Sums.{prefix_len-le-length, prefix_len_passes}
use Rattle.listing.specs.Line.{is_digit}
use Rattle.listing.proofs.line.field.Goals as goal

pub split_at-requires : goal.split_at-requires
split_at-requires c = omega (arith, prefix_len-le-length is_digit c.args.input.now)

pub value-requires-clause-all_digits : goal.value-requires-clause-all_digits
value-requires-clause-all_digits c k d l = grind (arith, common_steps, prefix_len_passes)
