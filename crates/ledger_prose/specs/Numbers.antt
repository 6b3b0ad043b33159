-- Numbers in words.
use Rattle.std.specs.Prelude.{ℕ, ◌==◌, cond, List, codes, nat_lt}
use Rattle.std.specs.Fmt.{decimal}

-- a number up to eight
abbrev pub low_word : ℕ → List ℕ
low_word n =
    cond (n == 0) (codes "no") (cond (n == 1) (codes "one") (cond (n == 2) (codes "two") (cond (n == 3) (codes "three") (cond (n == 4) (codes "four") (cond (n == 5) (codes "five") (cond (n == 6) (codes "six") (cond (n == 7) (codes "seven") (codes "eight"))))))))

-- a number from nine to sixteen
abbrev pub high_word : ℕ → List ℕ
high_word n =
    cond (n == 9) (codes "nine") (cond (n == 10) (codes "ten") (cond (n == 11) (codes "eleven") (cond (n == 12) (codes "twelve") (cond (n == 13) (codes "thirteen") (cond (n == 14) (codes "fourteen") (cond (n == 15) (codes "fifteen") (codes "sixteen")))))))

-- a number in a word, or in digits if it is above sixteen
unfoldable pub number_words : ℕ → List ℕ
number_words n = cond (nat_lt n 9) (low_word n) (cond (nat_lt n 17) (high_word n) (decimal n))
