use Rattle.std.proofs.Common.{◌≡◌, ◌∷◌, ◌∙◌, rules, subst, sym}
use Rattle.std.specs.Prelude.{string_bytes}
use Rattle.std.proofs.lemmas.Bool.{false≢true}
use Rattle.retro_top.specs.Names.{IsCommand}
use Rattle.retro_top.specs.Rows.{facts}
use Rattle.retro_top.proofs.Parsed.{call-named, called-made}
use Rattle.retro_top.proofs.parsing.parse_words.Goals as goal

pub returns-in_default-look_up-clause-uncalled : goal.returns-in_default-look_up-clause-uncalled
returns-in_default-look_up-clause-uncalled c (command, call) =
    let split : c.args.words.now ≡ c.in-Some.name.now ∷ c.in-Some.rest.now = search rules in
    let named : IsCommand c.as_bytes.result.now = subst IsCommand (sym c.as_bytes.ensures.value) (call-named c.args.words.now c.in-Some.name.now c.in-Some.rest.now command split call) in
    absurd (false≢true (rw c.in_default-look_up.is at (c.look_up.ensures.known.1 named)))

pub returns-in-Err-clause-uncalled : goal.returns-in-Err-clause-uncalled
returns-in-Err-clause-uncalled c (command, call) =
    let split : c.args.words.now ≡ c.in-Some.name.now ∷ c.in-Some.rest.now = search rules in
    let row = c.in-Some-look_up.row in
    let name : (facts row).name ≡ string_bytes c.in-Some.name.now = c.in-Some-look_up.ensures.named ∙ c.as_bytes.ensures.value in
    c.in-Err.ensures command (called-made c.args.words.now c.in-Some.name.now c.in-Some.rest.now (facts row) command split c.in-Some-look_up.ensures.held name call)
