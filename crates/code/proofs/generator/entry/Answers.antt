use Rattle.std.proofs.Common.{rules, arith}
use Rattle.std.proofs.lemmas.Grind.{common_steps}
use Rattle.std.proofs.lemmas.Bool.Decides.{nat_tests}
use Rattle.code.proofs.Answering.{pair_admitted, generator_entry}
use Rattle.code.proofs.generator.entry.Goals as goal

pub returns-in_err-pair : goal.returns-in_err-pair
returns-in_err-pair c = generator_entry (search rules)

pub returns-in_err-spot : goal.returns-in_err-spot
returns-in_err-spot c = generator_entry (grind (arith, common_steps))

pub returns-then-x-pair : goal.returns-then-x-pair
returns-then-x-pair c = generator_entry (grind (arith, nat_tests, pair_admitted))

pub returns : goal.returns
returns c = generator_entry (grind (arith, nat_tests, pair_admitted))
