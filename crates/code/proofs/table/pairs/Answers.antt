use Rattle.std.proofs.Common.{refl}
use Rattle.code.specs.Pairs.{rows_of, admitted}
use Rattle.code.proofs.Tables.{table_rule}
use Rattle.code.proofs.table.pairs.Goals as goal

pub returns : goal.returns
unfolding rows_of admitted
returns c = table_rule _ refl refl refl refl
