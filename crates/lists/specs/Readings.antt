-- A reading list as the code holds it: a pair, the lost box and the list's number. Assumes nothing.
use Rattle.std.specs.Prelude.{◌≡◌, ℕ, ◌+◌, ◌<◌, ◌≤◌, Bool, ◌⊎◌, List, length, Ok, Err, Result, MatchResult}
use Rattle.refusal.specs.declared.Refusal.{Refusal}
use Rattle.refusal.specs.Numbers.{number_of}
use Rattle.code.specs.declared.pair.Pair.{Pair}
use Rattle.lists.specs.declared.place.Place.{Place}
use Rattle.lists.specs.declared.reading.Reading.{Reading}
use Rattle.lists.specs.declared.request.Request.{Request}
use Rattle.lists.specs.ReadingLists.{gives, places_where, reading_list, lists_of}
use Rattle.lists.specs.Answers.{count_answer}

-- whether it has the row y of box b, and all its places
abbrev pub given_by : Reading → ℕ → ℕ → Bool
given_by l b y = gives l.pair.m l.pair.k l.lost l.c b y

abbrev pub places_given : Reading → List Place
places_given l = places_where (given_by l) l.pair.r (l.pair.m + l.pair.k)

-- there is a list just where there is a box and a list of that number, and the box is tried first
abbrev pub Finds : Pair → ℕ → ℕ → Result Reading Refusal → Type 0
Finds p f c answer =
    MatchResult answer (λ l. (f < p.m + p.k) × (c < lists_of p.m p.k f) × (l.pair ≡ p) × (l.lost ≡ f) × (l.c ≡ c))
    (λ e. ((p.m + p.k ≤ f) × (number_of e ≡ 8)) ⊎ ((f < p.m + p.k) × (lists_of p.m p.k f ≤ c) × (number_of e ≡ 16)))

-- what a request asks for: a reading list that has its places, or the refusal that its count is answered by
abbrev pub Reads : Request → Result Reading Refusal → Type 0
Reads q answer =
    MatchResult answer (λ l. (places_given l ≡ reading_list q.m q.k q.lost q.list) × (Ok (length (places_given l)) ≡ count_answer q.m q.k q.lost q.list))
    (λ e. Err (number_of e) ≡ count_answer q.m q.k q.lost q.list)
