use Rattle.std.proofs.Common.{rules}
use Rattle.http_front.proofs.Asking.{asks_from, word_at, words_count}
use Rattle.http_front.proofs.options.options_in.Goals as goal
use Rattle.http_front.proofs.options.options_in.Goals.{in_default-via-then-words-lt7, in_default-via-else-words-lt7+then-words-lt8+in-serve+in-text+in-text+in_default, in_default-via-else-words-lt7+then-words-lt8+in-serve+in-text+in_default, in_default-via-else-words-lt7+then-words-lt8+in-serve+in_default, in_default-via-else-words-lt7+then-words-lt8+in_default, in_default-via-else-words-lt7+else-words-lt8}

pub returns-in-serve-clause-numbers : goal.returns-in-serve-clause-numbers
returns-in-serve-clause-numbers c =
    asks_from c.args.words.now c.numbered.result c.in-serve.len_below c.in-serve.len_at_least c.in-serve.is-serve c.in-serve.is-text c.in-serve.is-text' c.in-serve.is-text'' c.numbered.ensures.written

pub returns-in_default-clause-numbers : goal.returns-in_default-clause-numbers
returns-in_default-clause-numbers c = λ o x.
    let count = words_count c.args.words.now o x in
    let first = word_at c.args.words.now o 0 x in
    let second = word_at c.args.words.now o 1 x in
    let fourth = word_at c.args.words.now o 3 x in
    let sixth = word_at c.args.words.now o 5 x in
    elim c.in_default.branch [
      | in_default-via-then-words-lt7 w ↦ search rules
      | in_default-via-else-words-lt7+then-words-lt8+in-serve+in-text+in-text+in_default w ↦ search rules
      | in_default-via-else-words-lt7+then-words-lt8+in-serve+in-text+in_default w ↦ search rules
      | in_default-via-else-words-lt7+then-words-lt8+in-serve+in_default w ↦ search rules
      | in_default-via-else-words-lt7+then-words-lt8+in_default w ↦ search rules
      | in_default-via-else-words-lt7+else-words-lt8 w ↦ search rules
    ]
