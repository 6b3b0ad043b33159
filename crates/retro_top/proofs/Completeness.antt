-- A command succeeds only with the inputs that it asks for, and with those it does.
use Rattle.std.proofs.Common.{◌≡◌, ℕ, List, sym, subst}
use Rattle.std.specs.Prelude.{Option, Some, None, IfSome}
use Rattle.retro_top.specs.Answers.{AnswersAs, IsUnspent, MustCounter, MustSucceed, ReadsBy, Succeeds, Suffices}
use Rattle.command_answers.specs.Limits.{most_bytes}
use Rattle.command_answers.specs.Unmoves.{ListsUnmoves}
use Rattle.command_answers.specs.Trees.{AnswersTreeOf}
use Rattle.command_answers.specs.Verdicts.{AnswersPosition}
use Rattle.command_answers.specs.Studies.{AnswersStudyOf}
use Rattle.command_answers.specs.Reports.{AnswersReportOf}
use Rattle.retro_top.proofs.Reporting.{report-done}
use Rattle.retro_top.proofs.Studying.{study-done}
use Rattle.retro_top.specs.declared.commands.Command.{Command}
use Rattle.retro_top.specs.declared.commands.Command.TheVariants.{Check, Explain, Play, San, Spell, Unmoves, Solve, Settle, Verdict, Study, Report, Tree, Length, AtLeast, Line, Dossier, Sample}
use Rattle.command_answers.specs.declared.statuses.Status.{Status}
use Rattle.command_answers.specs.declared.statuses.Status.TheVariants.{Done, Countered}
use Rattle.retro_top.proofs.Gaming.{NoGameFault, OneGame, done-game, done-moves, done-notation, play-done, san-done, spell-done}
use Rattle.retro_top.proofs.Input.{of_left}
use Rattle.retro_top.proofs.Asking.{done-alone, said-alone}
use Rattle.retro_top.proofs.Searching.{OneTextEach, cheap-done, few-done}
use Rattle.retro_top.proofs.Solving.{cheap-unspent, counterable-countered, done-refutable, refutable-done}
use Rattle.retro_top.proofs.Settling.{done-provable-claim, settle-countered, settle-done, settle-unspent}
use Rattle.retro_top.proofs.LineProofs.{AcceptedAreDossiers, OneDossier, done-line, done-proved-line, line-done, dossier-done, dossier-unspent}
use Rattle.retro_top.proofs.Lengthy.{OneLength, done-length, done-shown, length-done, shown-done}
use Rattle.retro_top.proofs.Explaining.{done-proof, explain-done}
use Rattle.retro_top.proofs.Headline.{OneAnswer, CertificatesProve, done-proved, proves-done}

-- with an input with which the command must succeed it does
pub succeeds-done : OneAnswer → OneLength → OneDossier → AcceptedAreDossiers → OneTextEach → OneGame → NoGameFault → (command : Command) (input : List ℕ) (ending : Status) (text : List ℕ) → AnswersAs command input ending text → MustSucceed command input → ending ≡ Done
succeeds-done law length dossier accepted one game sound Check input ending text answers good = proves-done law input text ending answers good
succeeds-done law length dossier accepted one game sound Explain input ending text answers good = explain-done law length dossier accepted input ending text answers good
succeeds-done law length dossier accepted one game sound Play input ending text answers good = play-done input ending text answers good
succeeds-done law length dossier accepted one game sound San input ending text answers good = san-done game sound input ending text answers good
succeeds-done law length dossier accepted one game sound Spell input ending text answers good = spell-done input ending text answers good
succeeds-done law length dossier accepted one game sound Unmoves input ending text answers good = let said = said-alone ListsUnmoves (λ q. Unit {0}) input good.0 ending text answers good.1 tt in said.2.0
succeeds-done law length dossier accepted one game sound (Solve depth nodes) input ending text answers good = refutable-done depth nodes input ending text answers good.0 good.1
succeeds-done law length dossier accepted one game sound (Settle depth nodes) input ending text answers good = settle-done depth nodes input ending text answers good
succeeds-done law length dossier accepted one game sound (Verdict depth nodes) input ending text answers good = cheap-done depth nodes input ending text answers good
succeeds-done law length dossier accepted one game sound (Study depth nodes) input ending text answers good = study-done depth nodes input ending text answers good
succeeds-done law length dossier accepted one game sound (Report depth nodes) input ending text answers good = report-done depth nodes input ending text answers good
succeeds-done law length dossier accepted one game sound (Tree depth nodes) input ending text answers good = few-done one depth nodes input ending text answers good
succeeds-done law length dossier accepted one game sound Length input ending text answers good = length-done input ending text answers good
succeeds-done law length dossier accepted one game sound AtLeast input ending text answers good = shown-done length input ending text answers good
succeeds-done law length dossier accepted one game sound Line input ending text answers good = line-done dossier accepted input ending text answers good
succeeds-done law length dossier accepted one game sound (Dossier depth nodes) input ending text answers good = dossier-done depth nodes input ending text answers good.0 good.1
succeeds-done law length dossier accepted one game sound (Sample start games plies) input ending text answers good = answers.done

-- where the nodes suffice, no search is spent
pub suffices-unspent : OneTextEach → (command : Command) (input : List ℕ) (ending : Status) (text : List ℕ) → AnswersAs command input ending text → Suffices command input → IsUnspent ending
suffices-unspent one (Solve depth nodes) input ending text answers enough = cheap-unspent depth nodes input ending text answers enough
suffices-unspent one (Settle depth nodes) input ending text answers enough = settle-unspent depth nodes input ending text answers enough
suffices-unspent one (Verdict depth nodes) input ending text answers enough = subst IsUnspent (sym (cheap-done depth nodes input ending text answers enough)) tt
suffices-unspent one (Study depth nodes) input ending text answers enough = subst IsUnspent (sym (study-done depth nodes input ending text answers enough)) tt
suffices-unspent one (Report depth nodes) input ending text answers enough = subst IsUnspent (sym (report-done depth nodes input ending text answers enough)) tt
suffices-unspent one (Tree depth nodes) input ending text answers enough = subst IsUnspent (sym (few-done one depth nodes input ending text answers enough)) tt
suffices-unspent one (Dossier depth nodes) input ending text answers enough = dossier-unspent depth nodes input ending text answers enough
suffices-unspent one _ input ending text answers enough = absurd enough

-- with an input with which the command must come to a game it does
pub must-counter : (command : Command) (input : List ℕ) (ending : Status) (text : List ℕ) → AnswersAs command input ending text → MustCounter command input → ending ≡ Countered
must-counter (Solve depth nodes) input ending text answers can = counterable-countered depth nodes input ending text answers can
must-counter (Settle depth nodes) input ending text answers can = settle-countered depth nodes input ending text answers can
must-counter _ input ending text answers can = absurd can

-- where the command succeeds, its input is such a one
pub done-succeeds : CertificatesProve → AcceptedAreDossiers → (command : Command) (input text : List ℕ) → AnswersAs command input Done text → Succeeds command input
done-succeeds law accepted Check input text answers = let proved = done-proved law input text answers in (proved.cert, proved.is_text, proved.proves)
done-succeeds law accepted Explain input text answers = done-proof input text answers
done-succeeds law accepted Play input text answers = done-game input text answers
done-succeeds law accepted San input text answers = done-notation input text answers
done-succeeds law accepted Spell input text answers = done-moves input text answers
done-succeeds law accepted Unmoves input text answers = let alone = done-alone ListsUnmoves input text answers in (alone.0, alone.1)
done-succeeds law accepted (Solve depth nodes) input text answers = done-refutable depth nodes input text answers
done-succeeds law accepted (Settle depth nodes) input text answers = done-provable-claim depth nodes input text answers
done-succeeds law accepted (Verdict depth nodes) input text answers = let alone = done-alone (AnswersPosition depth nodes) input text answers in (alone.0, alone.1)
done-succeeds law accepted (Study depth nodes) input text answers = let alone = done-alone (AnswersStudyOf depth nodes) input text answers in (alone.0, alone.1)
done-succeeds law accepted (Report depth nodes) input text answers = let alone = done-alone (AnswersReportOf depth nodes) input text answers in (alone.0, alone.1)
done-succeeds law accepted (Tree depth nodes) input text answers = let alone = done-alone (AnswersTreeOf depth nodes) input text answers in (alone.0, alone.2.0, text, alone.1, alone.2.1, alone.2.2)
done-succeeds law accepted Length input text answers = done-length input text answers
done-succeeds law accepted AtLeast input text answers = done-shown input text answers
done-succeeds law accepted Line input text answers = done-line accepted input text answers
done-succeeds law accepted (Dossier depth nodes) input text answers = done-proved-line depth nodes input text answers
done-succeeds law accepted (Sample start games plies) input text answers = tt

whatever : (left : Option (List ℕ)) → IfSome left (λ input. Unit {0})
whatever None = tt
whatever (Some input) = tt

-- of all that was left; `sample` asks nothing of it
pub succeeds_left : (command : Command) (left new : Option (List ℕ)) (input : List ℕ) → ReadsBy command most_bytes left new (λ bytes. bytes ≡ input) → Succeeds command input → IfSome left (Succeeds command)
succeeds_left (Sample start games plies) left new input read good = whatever left
succeeds_left command left new input read good = of_left command left new input (Succeeds command) tt read good
