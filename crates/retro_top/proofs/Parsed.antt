-- Which words call the command that a row makes of those behind its name.
use Rattle.std.proofs.Common.{◌≡◌, ℕ, ◌<◌, ◌≤◌, List, [], ◌∷◌, get_or, length, map, inl, inr, sym, ap, ◌∙◌, subst, arith}
use Rattle.std.specs.Global.{Global}
use Rattle.std.specs.List.{Contains}
use Rattle.std.specs.Prelude.{MatchResult, Option, Some, None, Result, Ok, Err, String, string_bytes}
use Rattle.retro_top.specs.Commands.{AreWordsOf, Call}
use Rattle.retro_top.specs.Names.{IsCommand}
use Rattle.retro_top.specs.Rows.{Facts, IsMade, IsSample, IsSearch, IsUsual, table}
use Rattle.retro_top.specs.declared.commands.Command.{Command}
use Rattle.retro_top.specs.declared.parsing.RestFault.{RestFault}
use Rattle.retro_top.specs.declared.rows.Calls.{Calls}
use Rattle.retro_top.specs.declared.rows.Calls.TheVariants as calls
use Rattle.retro_top.specs.declared.rows.Search.{Search}
use Rattle.retro_top.specs.declared.rows.Usual.{Usual}
use Rattle.retro_top.proofs.Table.{called-behind, same-name, table-named, words-made}

-- the words, as bytes
abbrev spelling : List (String Global) → List (List ℕ)
spelling = map string_bytes

-- words that call a command make it behind its name
pub called-made : (words : List (String Global)) (first : String Global) (rest : List (String Global)) (said : Facts) (command : Command) → words ≡ first ∷ rest → Contains table said → said.name ≡ string_bytes first → Call words command → IsMade said.makes (spelling rest) command
called-made words first rest said command e held name call =
    let same : spelling words ≡ said.name ∷ spelling rest = ap spelling e ∙ ap (λ (l : List ℕ). l ∷ spelling rest) (sym name) in
    words-made said command (spelling rest) held (subst (λ (l : List (List ℕ)). AreWordsOf l command) same call.words_are) call.in_range

-- words that call a command begin with its name
pub call-named : (words : List (String Global)) (first : String Global) (rest : List (String Global)) (command : Command) → words ≡ first ∷ rest → Call words command → IsCommand (string_bytes first)
call-named words first rest command e call =
    let behind = called-behind (spelling words) command call.in_range call.words_are in
    let same : behind.said.name ≡ string_bytes first = same-name _ _ _ _ (sym behind.words_are ∙ ap spelling e) in
    subst IsCommand same (table-named behind.said behind.held)

-- the words behind a name are told to make the command that they make, or none
abbrev IsTold : Calls → List (List ℕ) → Result Command RestFault → Type 0
IsTold makes words told = MatchResult told (IsMade makes words) (λ why. (made : Command) → IsMade makes words made → ⊥)

none-usual : (search : Search) (usual : Option Usual) (word : List ℕ) (words : List (List ℕ)) (made : Command) → IsUsual search usual (word ∷ words) made → ⊥
none-usual search (Some usual) word words made is = let e : word ∷ words ≡ [] = is.0 in cc
none-usual search None word words made is = is

limits-told : (search : Search) (usual : Option Usual) (word : List ℕ) (words : List (List ℕ)) (told : Result Command RestFault) → MatchResult told (IsSearch search (word ∷ words)) (λ why. (made : Command) → IsSearch search (word ∷ words) made → ⊥) → IsTold (calls.Search search usual) (word ∷ words) told
limits-told search usual word words (Ok made) is = inl is
limits-told search usual word words (Err why) none = λ made is. elim is [ inl said ↦ none made said | inr usually ↦ none-usual search usual word words made usually ]

-- two words
pub two-told : (makes : Calls) (search : Search) (usual : Option Usual) (words : List (String Global)) (a b : String Global) (told : Result Command RestFault) → makes ≡ calls.Search search usual → 2 ≤ length words → length words < 3 → a ≡ get_or words 0 a → b ≡ get_or words 1 b → MatchResult told (IsSearch search (string_bytes a ∷ string_bytes b ∷ [])) (λ why. (made : Command) → IsSearch search (string_bytes a ∷ string_bytes b ∷ []) made → ⊥) → IsTold makes (spelling words) told
two-told makes search usual [] a b told m low high p q is = absurd (omega arith)
two-told makes search usual (x ∷ []) a b told m low high p q is = absurd (omega arith)
two-told makes search usual (x ∷ y ∷ []) a b told m low high p q is =
    let e : string_bytes a ∷ string_bytes b ∷ [] ≡ string_bytes x ∷ string_bytes y ∷ [] = cc in
    subst (λ (other : Calls). IsTold other (string_bytes x ∷ string_bytes y ∷ []) told) (sym m)
    (subst (λ (l : List (List ℕ)). IsTold (calls.Search search usual) l told) e (limits-told search usual _ _ told is))
two-told makes search usual (x ∷ y ∷ z ∷ words) a b told m low high p q is = absurd (omega arith)

-- three
pub three-told : (makes : Calls) (words : List (String Global)) (a b d : String Global) (told : Result Command RestFault) → makes ≡ calls.Sample → 3 ≤ length words → length words < 4 → a ≡ get_or words 0 a → b ≡ get_or words 1 b → d ≡ get_or words 2 d → MatchResult told (IsSample (string_bytes a ∷ string_bytes b ∷ string_bytes d ∷ [])) (λ why. (made : Command) → IsSample (string_bytes a ∷ string_bytes b ∷ string_bytes d ∷ []) made → ⊥) → IsTold makes (spelling words) told
three-told makes [] a b d told m low high p q r is = absurd (omega arith)
three-told makes (x ∷ []) a b d told m low high p q r is = absurd (omega arith)
three-told makes (x ∷ y ∷ []) a b d told m low high p q r is = absurd (omega arith)
three-told makes (x ∷ y ∷ z ∷ []) a b d told m low high p q r is =
    let e : string_bytes a ∷ string_bytes b ∷ string_bytes d ∷ [] ≡ string_bytes x ∷ string_bytes y ∷ string_bytes z ∷ [] = cc in
    subst (λ (other : Calls). IsTold other (string_bytes x ∷ string_bytes y ∷ string_bytes z ∷ []) told) (sym m)
    (subst (λ (l : List (List ℕ)). IsTold calls.Sample l told) e is)
three-told makes (x ∷ y ∷ z ∷ w ∷ words) a b d told m low high p q r is = absurd (omega arith)
