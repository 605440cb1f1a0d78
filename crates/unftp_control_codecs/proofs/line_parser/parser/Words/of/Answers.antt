use Rattle.std.proofs.Common.{◌≡◌, [], refl, sym, ap, subst, ◌∙◌}
use Rattle.unftp_control_defs.specs.Forwarded.{kind_keeps}
use Rattle.unftp_control_defs.specs.Outcome.{outcome, parameter_outcome, site_outcome}
use Rattle.unftp_control_codecs.specs.WordsMeaning.{AreWords}
use Rattle.unftp_control_defs.proofs.SaidLemmas.{fits, other_fits}
use Rattle.unftp_control_codecs.proofs.OutcomeLemmas.{outcome-named, outcome-other}
use Rattle.unftp_control_codecs.proofs.WordLemmas.{in_both, in_line, no_name}
use Rattle.unftp_control_codecs.proofs.line_parser.parser.Words.of.Goals as goal

pub returns-in_default-clause-means : goal.returns-in_default-clause-means
returns-in_default-clause-means c = record {
  read = rw (c.split.ensures.verb, c.split.ensures.parameter) (outcome-other c.args.line.now
      (rw c.split.ensures.verb at (sym c.in_default.ensures)));
  fits = other_fits _;
  split = λ is. cc;
  keeps = refl;
  nameless = λ none. absurd none;
}

pub returns-in_default-kind-clause-means : goal.returns-in_default-kind-clause-means
returns-in_default-kind-clause-means c = no_name _ _ refl
    (outcome-named c.args.line.now (rw c.split.ensures.verb at (sym c.in-Some.ensures))
    ∙ (λ i. parameter_outcome (sym c.kind.ensures i) c.in-Some.verb []
    (sym c.split.ensures.parameter i)))
    (rw c.kind.ensures (fits c.in-Some.verb)) c.in_default-kind.not-Subcommand
    (ap kind_keeps c.kind.ensures)

pub returns-in-Subcommand-clause-means : goal.returns-in-Subcommand-clause-means
returns-in-Subcommand-clause-means c =
    let read : outcome c.args.line.now ≡ site_outcome c.split.result.1.now =
    outcome-named c.args.line.now (rw c.split.ensures.verb at (sym c.in-Some.ensures))
    ∙ (λ i. parameter_outcome ((sym c.kind.ensures ∙ c.in-Subcommand.is) i) c.in-Some.verb []
    (sym c.split.ensures.parameter i)) in
    subst (λ answer. AreWords answer c.site.result) (sym read) c.site.ensures.means

pub returns-in_default-clause-in_line : goal.returns-in_default-clause-in_line
returns-in_default-clause-in_line c =
    in_line c.args.line.now c.split.result.1.now c.split.ensures.parameter

pub returns-in_default-kind-clause-in_line : goal.returns-in_default-kind-clause-in_line
returns-in_default-kind-clause-in_line c =
    in_line c.args.line.now c.split.result.1.now c.split.ensures.parameter

pub returns-in-Subcommand-clause-in_line : goal.returns-in-Subcommand-clause-in_line
returns-in-Subcommand-clause-in_line c =
    in_both c.args.line.now c.split.result.1.now c.site.result.parameter.now
    (in_line c.args.line.now c.split.result.1.now c.split.ensures.parameter) c.site.ensures.in_line
