use Rattle.std.proofs.Common.{◌≡◌, ◌∙◌, List, ap, codes, map, refl, subst}
use Rattle.std.specs.Prelude.{Ok, Err}
use Rattle.clap.{specs.declared.parser.matches.ArgMatches.ArgMatches, proofs.OnLiterals.clap_on_literals, proofs.WalkLemmas.first_value-rows}
use Rattle.clap.specs.Words.{Row, Text, app_of, first_of, found_of, rows_of}
use Rattle.player.{specs.CommandLine.IsFlagOf, specs.CommandLine.rows_given, proofs.Accepted.option_is}
use Rattle.player.proofs.CommandLines.{rows_are, faults_are, flag_of}
use Rattle.player.proofs.arguments.options.Goals as goal

pub returns-clause-numbers : goal.returns-clause-numbers
unfolding clap_on_literals
returns-clause-numbers c =
    let words : List Text = map (λ w. w.now) c.args.words.now in
    let command = c.in_ok-command.command in
    let m = c.in-Ok.matches in
    let same = c.in_ok-command.ensures in
    let parsed = c.in-Ok.ensures.parsed in
    let rows : rows_of (found_of m) ≡ rows_given words = rows_are (app_of command) words m same c.in-Ok.ensures.matches in
    let number = option_is command m parsed same words rows in
    record {
      luns = number 0 (codes "luns") (codes "1") 1 0 4294967295 refl refl refl refl c.number.result c.number.ensures;
      blocks = number 1 (codes "blocks") (codes "64") 64 0 4294967295 refl refl refl refl c.number-2.result c.number-2.ensures;
      pages = number 2 (codes "pages") (codes "64") 64 0 4294967295 refl refl refl refl c.number-3.result c.number-3.ensures;
      words = number 3 (codes "words") (codes "64") 64 0 4294967295 refl refl refl refl c.number-4.result c.number-4.ensures;
      sectors = number 4 (codes "sectors") (codes "3072") 3072 0 4294967295 refl refl refl refl c.number-5.result c.number-5.ensures;
      endurance = number 5 (codes "endurance") (codes "1000") 1000 0 4294967295 refl refl refl refl c.number-6.result c.number-6.ensures;
      workers = number 6 (codes "workers") (codes "0") 0 0 4294967295 refl refl refl refl c.number-7.result c.number-7.ensures;
      brooms = number 7 (codes "brooms") (codes "0") 0 0 4294967295 refl refl refl refl c.number-8.result c.number-8.ensures;
      patience = number 8 (codes "patience") (codes "1000000") 1000000 1 1000000000 refl refl refl refl c.number-9.result c.number-9.ensures;
      drains = number 9 (codes "drains") (codes "1") 1 1 4096 refl refl refl refl c.number-10.result c.number-10.ensures;
      wear = c.get_str.ensures ∙ first_value-rows (found_of m) (codes "wear") ∙ ap (first_of (codes "wear")) rows;
      collections = c.get_str-2.ensures ∙ first_value-rows (found_of m) (codes "collections") ∙ ap (first_of (codes "collections")) rows;
      quiet = subst (λ (r : List Row). IsFlagOf r (codes "quiet") c.get_flag.result) rows
          (flag_of (found_of m) (codes "quiet") c.get_flag.result c.get_flag.ensures.none c.get_flag.ensures.value c.get_flag.ensures.other);
      all_written = subst (λ (r : List Row). IsFlagOf r (codes "all-written") c.get_flag-2.result) rows
          (flag_of (found_of m) (codes "all-written") c.get_flag-2.result c.get_flag-2.ensures.none c.get_flag-2.ensures.value c.get_flag-2.ensures.other);
    }

pub returns-clause-outcome : goal.returns-clause-outcome
returns-clause-outcome c =
    faults_are (app_of c.in_ok-command.command) (map (λ w. w.now) c.args.words.now) (Ok c.in-Ok.matches) c.in_ok-command.ensures c.in-Ok.ensures.kinds

pub returns-in-Err-clause-outcome : goal.returns-in-Err-clause-outcome
returns-in-Err-clause-outcome c =
    faults_are {T = ArgMatches} (app_of c.in_ok-command.command) (map (λ w. w.now) c.args.words.now)
    (Err c.in-Err.error) c.in_ok-command.ensures c.in-Err.ensures.kinds
