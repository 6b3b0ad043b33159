-- Inner: no public clause cites this file.
-- Hints on the words of the command line.
use Rattle.std.specs.Prelude.{◌≡◌, ◌⊎◌, IfSome, List, String}
use Rattle.std.specs.Global.{Global}
use Rattle.retro_top.specs.Names.{Begin}
use Rattle.front_door.specs.Hints.{TellsWords}
use Rattle.hint_texts.specs.declared.advice.Advice.TheVariants.{Words}
use Rattle.hint_texts.specs.declared.advice.WordAdvice.{WordAdvice}
use Rattle.hint_texts.specs.declared.advice.WordAdvice.TheVariants.{NearestCommand}
use Rattle.front_door.specs.declared.hints.Hint.{Hint}

-- the hint is one on words, and fits these
abbrev pub IsOfWords : Hint → List (String Global) → Type 0
IsOfWords hint words = (advice : WordAdvice) × (hint.advice ≡ Words advice) × TellsWords advice words

-- the call that the hint shows, if any, is that of the first word, or one that it tells as the nearest
abbrev pub ShowsCall : Hint → List (String Global) → Type 0
ShowsCall hint words = IfSome hint.call (λ call. (hint.advice ≡ Words NearestCommand) ⊎ Begin words call.name.now)
