-- What the code holds of a reading list, and that it is the one asked for. Assumes nothing.
use Rattle.std.proofs.Common.{◌≡◌, ◌+◌, ◌-◌, ◌*◌, ◌/◌, ◌<◌, ◌≤◌, true, length, Ok, Err, Result, ap, arith}
use Rattle.std.proofs.lemmas.Bool.Decides.{nat_tests}
use Rattle.refusal.specs.declared.Refusal.{Refusal}
use Rattle.code.specs.declared.pair.Pair.{Pair}
use Rattle.code.specs.Pairs.{admitted}
use Rattle.lists.specs.declared.reading.Reading.{Reading}
use Rattle.lists.specs.declared.request.Request.{Request}
use Rattle.lists.specs.ReadingLists.{reading_list}
use Rattle.lists.specs.Readings.{places_given, Finds, Reads}
use Rattle.lists.proofs.Lengths.{list_laws}

-- the places that it has are the reading list
pub given_is : (l : Reading) → places_given l ≡ reading_list l.pair.m l.pair.k l.lost l.c
unfolding reading_list
given_is l = cc l.pair.admitted.rows_are_the_power

-- how many they are
pub count_of_data : (l : Reading) → l.lost < l.pair.k → (l.pair.m + l.pair.k - 1) * (l.pair.r / l.pair.m) ≡ length (places_given l)
count_of_data l h =
    let p = l.pair in
    cc (p.admitted.rows_are_the_power, given_is l, (list_laws p.m p.k (omega arith) (omega arith)).data_box_takes_one_block_in_m l.lost l.c h l.number)

pub count_of_parity : (l : Reading) → l.pair.k ≤ l.lost → l.pair.k * l.pair.r ≡ length (places_given l)
count_of_parity l h =
    let p = l.pair in
    cc (p.admitted.rows_are_the_power, given_is l, (list_laws p.m p.k (omega arith) (omega arith)).parity_box_takes_all_data l.lost l.c h)

-- what is found for the pair, the box and the list of a request is what it reads
pub found_reads : (q : Request) (p : Pair) → (admitted q.m q.k ≡ true) × (p.m ≡ q.m) × (p.k ≡ q.k) → (answer : Result Reading Refusal) → Finds p q.lost q.list answer → Reads q answer
found_reads q p asked (Ok l) found = grind (arith, nat_tests, given_is l, found, asked, ap (λ p. p.m) found.2, ap (λ p. p.k) found.2)
found_reads q p asked (Err e) found = grind (arith, nat_tests, found, asked)
