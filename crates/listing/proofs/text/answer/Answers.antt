use Rattle.listing.proofs.Lines as lines
use Rattle.listing.proofs.text.answer.Goals as goal

pub returns-in-Ok-clause-reader_finds_just_the_lines : goal.returns-in-Ok-clause-reader_finds_just_the_lines
returns-in-Ok-clause-reader_finds_just_the_lines c = lines.reader_finds_just_the_lines

pub returns-in-Err-Refused-clause-reader_finds_just_the_lines : goal.returns-in-Err-Refused-clause-reader_finds_just_the_lines
returns-in-Err-Refused-clause-reader_finds_just_the_lines c = lines.reader_finds_just_the_lines

pub returns-in-Err-OutOfMemory-clause-reader_finds_just_the_lines : goal.returns-in-Err-OutOfMemory-clause-reader_finds_just_the_lines
returns-in-Err-OutOfMemory-clause-reader_finds_just_the_lines c = lines.reader_finds_just_the_lines
