-- The table of commands says of each command which words call it, and of each name which command it calls.
use Rattle.std.proofs.Common.{◌≡◌, ℕ, zero, suc, cond, List, [], ◌∷◌, get_or, map, refl, sym, ap, ◌∙◌, subst, inl, inr, arith}
use Rattle.std.specs.Fmt.{decimal}
use Rattle.std.specs.List.{All, Contains}
use Rattle.std.specs.Prelude.{codes, None, Option, Some}
use Rattle.std.specs.Str.{bytes_eq}
use Rattle.std.proofs.lemmas.Fmt.{decimal_injective}
use Rattle.std.proofs.lemmas.List.{get_or-map, length-map}
use Rattle.std.proofs.lemmas.List.Elements.{All-contains, All-map}
use Rattle.retro_top.specs.Commands.{AreShortWordsOf, AreWordsOf, IsInRange, words_of}
use Rattle.retro_top.specs.Names.{IsCommand, IsReadBy}
use Rattle.retro_top.specs.Rows.{Facts, IsMade, IsSample, IsSearch, IsUsual, one_each, said_of, search_of, table}
use Rattle.retro_top.specs.declared.commands.Command.{Command}
use Rattle.retro_top.specs.declared.commands.Command.TheVariants.{Check, Explain, Play, San, Spell, Unmoves, Study, Report, Solve, Settle, Verdict, Tree, Length, AtLeast, Line, Dossier, Sample}
use Rattle.retro_top.specs.declared.rows.Calls.{Calls}
use Rattle.retro_top.specs.declared.rows.Calls.TheVariants as calls
use Rattle.retro_top.specs.declared.rows.Search.{Search}
use Rattle.retro_top.specs.declared.rows.Search.TheVariants as searches
use Rattle.retro_top.specs.declared.rows.Usual.{Usual}

-- what holds of what is said of each command holds of all the table
everywhere : (P : Facts → Type 0) → ((command : Command) → P (said_of command)) → All P table
everywhere P h = All-map P said_of one_each (λ k d below. h (get_or one_each k d))

-- at which place of the list the name stands
abbrev place_in : List Facts → List ℕ → ℕ
place_in [] name = zero
place_in (said ∷ rest) name = cond (bytes_eq said.name name) zero (suc (place_in rest name))

-- what the table says of a name
abbrev looked_up : List ℕ → Facts
looked_up name = get_or table (place_in table name) (said_of Check)

commands-placed : (command : Command) → said_of command ≡ looked_up (said_of command).name
commands-placed Check = refl
commands-placed Explain = refl
commands-placed Play = refl
commands-placed San = refl
commands-placed Spell = refl
commands-placed Unmoves = refl
commands-placed (Study depth nodes) = refl
commands-placed (Report depth nodes) = refl
commands-placed (Solve depth nodes) = refl
commands-placed (Settle depth nodes) = refl
commands-placed (Verdict depth nodes) = refl
commands-placed (Tree depth nodes) = refl
commands-placed Length = refl
commands-placed AtLeast = refl
commands-placed Line = refl
commands-placed (Dossier depth nodes) = refl
commands-placed (Sample start games plies) = refl

first-word : (command : Command) (name : List ℕ) (words : List (List ℕ)) → words_of command ≡ name ∷ words → (said_of command).name ≡ name
first-word Check name words e = cc
first-word Explain name words e = cc
first-word Play name words e = cc
first-word San name words e = cc
first-word Spell name words e = cc
first-word Unmoves name words e = cc
first-word (Study depth nodes) name words e = cc
first-word (Report depth nodes) name words e = cc
first-word (Solve depth nodes) name words e = cc
first-word (Settle depth nodes) name words e = cc
first-word (Verdict depth nodes) name words e = cc
first-word (Tree depth nodes) name words e = cc
first-word Length name words e = cc
first-word AtLeast name words e = cc
first-word Line name words e = cc
first-word (Dossier depth nodes) name words e = cc
first-word (Sample start games plies) name words e = cc

-- what the table says under a name
by-name : (said : Facts) → Contains table said → said ≡ looked_up said.name
by-name said h = All-contains (λ (other : Facts). other ≡ looked_up other.name) table said (everywhere (λ (other : Facts). other ≡ looked_up other.name) commands-placed) h

-- what the table says under the name of a command is said of the command
same : (said : Facts) (command : Command) (words : List (List ℕ)) → Contains table said → words_of command ≡ said.name ∷ words → said ≡ said_of command
same said command words h e = by-name said h ∙ ap looked_up (sym (first-word command said.name words e)) ∙ sym (commands-placed command)

-- the words behind a command's name make it
behind-made : (command : Command) (name : List ℕ) (words : List (List ℕ)) → words_of command ≡ name ∷ words → IsInRange command → IsMade (said_of command).makes words command
behind-made Check name words e r = (cc, refl)
behind-made Explain name words e r = (cc, refl)
behind-made Play name words e r = (cc, refl)
behind-made San name words e r = (cc, refl)
behind-made Spell name words e r = (cc, refl)
behind-made Unmoves name words e r = (cc, refl)
behind-made (Study depth nodes) name words e r = inl (depth, nodes, cc, r, refl)
behind-made (Report depth nodes) name words e r = inl (depth, nodes, cc, r, refl)
behind-made (Solve depth nodes) name words e r = inl (depth, nodes, cc, r, refl)
behind-made (Settle depth nodes) name words e r = inl (depth, nodes, cc, r, refl)
behind-made (Verdict depth nodes) name words e r = inl (depth, nodes, cc, r, refl)
behind-made (Tree depth nodes) name words e r = inl (depth, nodes, cc, r, refl)
behind-made Length name words e r = (cc, refl)
behind-made AtLeast name words e r = (cc, refl)
behind-made Line name words e r = (cc, refl)
behind-made (Dossier depth nodes) name words e r = inl (depth, nodes, cc, r, refl)
behind-made (Sample start games plies) name words e r = (start, games, plies, cc, r, refl)

-- and so do none, where its name alone calls it
short-made : (said : Facts) (command : Command) (words : List (List ℕ)) → Contains table said → AreShortWordsOf (said.name ∷ words) command → IsMade said.makes words command
short-made said command words h (inl e) =
    let name : said.name ≡ codes "settle" = cc in
    let none : words ≡ [] = cc in
    subst (λ (other : Facts). IsMade other.makes words command) (sym (by-name said h ∙ ap looked_up name)) (inr (none, e.1))
short-made said command words h (inr (inl e)) =
    let name : said.name ≡ codes "study" = cc in
    let none : words ≡ [] = cc in
    subst (λ (other : Facts). IsMade other.makes words command) (sym (by-name said h ∙ ap looked_up name)) (inr (none, e.1))
short-made said command words h (inr (inr e)) =
    let name : said.name ≡ codes "report" = cc in
    let none : words ≡ [] = cc in
    subst (λ (other : Facts). IsMade other.makes words command) (sym (by-name said h ∙ ap looked_up name)) (inr (none, e.1))

-- the words that call a command make it, behind its name
pub words-made : (said : Facts) (command : Command) (words : List (List ℕ)) → Contains table said → AreWordsOf (said.name ∷ words) command → IsInRange command → IsMade said.makes words command
words-made said command words h (inl full) r =
    subst (λ (other : Facts). IsMade other.makes words command) (sym (same said command words h (sym full))) (behind-made command said.name words (sym full) r)
words-made said command words h (inr short) r = short-made said command words h short

-- what is said of a command stands in the table
held : (command : Command) → Contains table (said_of command)
held Check = (0, omega arith, refl)
held Explain = (1, omega arith, refl)
held Play = (2, omega arith, refl)
held San = (3, omega arith, refl)
held Spell = (4, omega arith, refl)
held Unmoves = (5, omega arith, refl)
held (Study depth nodes) = (6, omega arith, refl)
held (Report depth nodes) = (7, omega arith, refl)
held (Solve depth nodes) = (8, omega arith, refl)
held (Settle depth nodes) = (9, omega arith, refl)
held (Verdict depth nodes) = (10, omega arith, refl)
held (Tree depth nodes) = (11, omega arith, refl)
held Length = (12, omega arith, refl)
held AtLeast = (13, omega arith, refl)
held Line = (14, omega arith, refl)
held (Dossier depth nodes) = (15, omega arith, refl)
held (Sample start games plies) = (16, omega arith, refl)

-- the names of the table, in order
abbrev pub names : List (List ℕ)
names = map (λ (said : Facts). said.name) table

-- each command is called by one of the names
pub commands-named : (name : List ℕ) → IsCommand name → Contains names name
commands-named name (command, numbers, e) =
    let at = held command in
    (at.0, omega (arith, at.1, length-map table (λ (said : Facts). said.name)), get_or-map (λ (said : Facts). said.name) table at.0 (said_of command) name at.1 ∙ ap (λ (said : Facts). said.name) at.2 ∙ first-word command name numbers e)

-- a command's words begin with its name
headed : (command : Command) → (numbers : List (List ℕ)) × (words_of command ≡ (said_of command).name ∷ numbers)
headed Check = (_, refl)
headed Explain = (_, refl)
headed Play = (_, refl)
headed San = (_, refl)
headed Spell = (_, refl)
headed Unmoves = (_, refl)
headed (Study depth nodes) = (_, refl)
headed (Report depth nodes) = (_, refl)
headed (Solve depth nodes) = (_, refl)
headed (Settle depth nodes) = (_, refl)
headed (Verdict depth nodes) = (_, refl)
headed (Tree depth nodes) = (_, refl)
headed Length = (_, refl)
headed AtLeast = (_, refl)
headed Line = (_, refl)
headed (Dossier depth nodes) = (_, refl)
headed (Sample start games plies) = (_, refl)

-- each of the names calls a command
pub named-commands : (name : List ℕ) → Contains names name → IsCommand name
named-commands name h =
    All-contains IsCommand names name (All-map IsCommand (λ (said : Facts). said.name) table (everywhere (λ (said : Facts). IsCommand said.name) (λ command. (command, (headed command).0, (headed command).1)))) h

-- a name of the table calls a command
pub table-named : (said : Facts) → Contains table said → IsCommand said.name
table-named said h = All-contains (λ (other : Facts). IsCommand other.name) table said (everywhere (λ (other : Facts). IsCommand other.name) (λ command. (command, (headed command).0, (headed command).1))) h

-- what is said of a command is what it reads
abbrev ReadsRight : Facts → Type 0
ReadsRight said = IsReadBy said.input said.name

read-right : (command : Command) → ReadsRight (said_of command)
read-right Check = refl
read-right Explain = refl
read-right Play = refl
read-right San = refl
read-right Spell = refl
read-right Unmoves = inl refl
read-right (Study depth nodes) = inr (inl refl)
read-right (Report depth nodes) = inr (inr (inl refl))
read-right (Solve depth nodes) = inl refl
read-right (Settle depth nodes) = inr refl
read-right (Verdict depth nodes) = inr (inr (inr (inl refl)))
read-right (Tree depth nodes) = inr (inr (inr (inr refl)))
read-right Length = refl
read-right AtLeast = refl
read-right Line = refl
read-right (Dossier depth nodes) = refl
read-right (Sample start games plies) = refl

pub table-read : (said : Facts) → Contains table said → ReadsRight said
table-read said h = All-contains ReadsRight table said (everywhere ReadsRight read-right) h

-- words that call a command are a name of the table and words behind it that make the command
pub record IsMadeBehind (words : List (List ℕ)) (command : Command) : Type 0 where
  pub said : Facts
  pub rest : List (List ℕ)
  pub held : Contains table said
  pub words_are : words ≡ said.name ∷ rest
  pub made : IsMade said.makes rest command

pub called-behind : (words : List (List ℕ)) (command : Command) → IsInRange command → AreWordsOf words command → IsMadeBehind words command
called-behind words command r (inl full) = record {
  said = said_of command;
  rest = (headed command).0;
  held = held command;
  words_are = full ∙ (headed command).1;
  made = behind-made command (said_of command).name (headed command).0 (headed command).1 r;
}
called-behind words command r (inr (inl settles)) = record { said = said_of (Settle 0 0); rest = []; held = held (Settle 0 0); words_are = settles.0; made = inr (refl, settles.1) }
called-behind words command r (inr (inr (inl studies))) = record { said = said_of (Study 0 0); rest = []; held = held (Study 0 0); words_are = studies.0; made = inr (refl, studies.1) }
called-behind words command r (inr (inr (inr reports))) = record { said = said_of (Report 0 0); rest = []; held = held (Report 0 0); words_are = reports.0; made = inr (refl, reports.1) }

-- two words are one depth and one number of nodes
one-search : (search : Search) (words : List (List ℕ)) (a b : Command) → IsSearch search words a → IsSearch search words b → a ≡ b
one-search search words a b (depth, nodes, w, r, is) (deep, many, v, s, also) =
    let depths : decimal depth ≡ decimal deep = cc in
    let counts : decimal nodes ≡ decimal many = cc in
    let same = decimal_injective depth deep (omega (arith, r.shallow)) (omega (arith, s.shallow)) depths in
    let equal = decimal_injective nodes many (omega (arith, r.few_nodes)) (omega (arith, s.few_nodes)) counts in
    is ∙ ap (λ (k : ℕ). search_of search k nodes) same ∙ ap (search_of search deep) equal ∙ sym also

one-usual : (search : Search) (usual : Option Usual) (words : List (List ℕ)) (a b : Command) → IsUsual search usual words a → IsUsual search usual words b → a ≡ b
one-usual search (Some usual) words a b is also = is.1 ∙ sym also.1
one-usual search None words a b is also = absurd is

not-both : (search : Search) (usual : Option Usual) (words : List (List ℕ)) (a b : Command) → IsSearch search words a → IsUsual search usual words b → ⊥
not-both search (Some usual) words a b (depth, nodes, w, r, is) also = let e : decimal depth ∷ decimal nodes ∷ [] ≡ [] = sym w ∙ also.0 in cc
not-both search None words a b is also = also

one-sample : (words : List (List ℕ)) (a b : Command) → IsSample words a → IsSample words b → a ≡ b
one-sample words a b (start, games, plies, w, r, is) (other, many, moves, v, s, also) =
    let starts : start ≡ other = decimal_injective start other r.start_fits s.start_fits cc in
    let counts : games ≡ many = decimal_injective games many (omega (arith, r.few_games)) (omega (arith, s.few_games)) cc in
    let lengths : plies ≡ moves = decimal_injective plies moves (omega (arith, r.few_plies)) (omega (arith, s.few_plies)) cc in
    cc

-- the words behind a name make one command
one-made : (makes : Calls) (words : List (List ℕ)) (a b : Command) → IsMade makes words a → IsMade makes words b → a ≡ b
one-made (calls.Plain command) words a b is also = is.1 ∙ sym also.1
one-made (calls.Search search usual) words a b (inl is) (inl also) = one-search search words a b is also
one-made (calls.Search search usual) words a b (inl is) (inr also) = absurd (not-both search usual words a b is also)
one-made (calls.Search search usual) words a b (inr is) (inl also) = absurd (not-both search usual words b a also is)
one-made (calls.Search search usual) words a b (inr is) (inr also) = one-usual search usual words a b is also
one-made calls.Sample words a b is also = one-sample words a b is also

pub same-name : (a b : List ℕ) (x y : List (List ℕ)) → a ∷ x ≡ b ∷ y → a ≡ b
same-name a b x y e = cc

same-rest : (a b : List ℕ) (x y : List (List ℕ)) → a ∷ x ≡ b ∷ y → x ≡ y
same-rest a b x y e = cc

-- words call one command
pub one-called : (words : List (List ℕ)) (a b : Command) → IsInRange a → IsInRange b → AreWordsOf words a → AreWordsOf words b → a ≡ b
one-called words a b r s call other =
    let one = called-behind words a r call in
    let two = called-behind words b s other in
    let name : one.said.name ≡ two.said.name = same-name _ _ _ _ (sym one.words_are ∙ two.words_are) in
    let rest : one.rest ≡ two.rest = same-rest _ _ _ _ (sym one.words_are ∙ two.words_are) in
    let said : one.said ≡ two.said = by-name one.said one.held ∙ ap looked_up name ∙ sym (by-name two.said two.held) in
    one-made two.said.makes two.rest a b
    (subst (λ (words : List (List ℕ)). IsMade two.said.makes words a) rest (subst (λ (said : Facts). IsMade said.makes one.rest a) said one.made)) two.made
