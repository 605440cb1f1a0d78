use Rattle.std.proofs.Common.{◌≡◌, ◌++◌, ◌∙◌, ap, sym, drop, length, length-append, length-drop, arith}
use Rattle.unftp_control_defs.specs.Bytes.{crlf}
use Rattle.unftp_control_defs.specs.ReplyReader.{with_crlf}
use Rattle.unftp_control_read.specs.ReplyLines.{reply_text}
use Rattle.unftp_control_read.proofs.PlaceLemmas.{text_placed}
use Rattle.unftp_control_read.proofs.SearchLemmas.{after_is_drop}
use Rattle.unftp_control_read.proofs.places.line_at.Goals as goal

pub returns-in_default : goal.returns-in_default
returns-in_default c = rw (← c.split_at.ensures.back) c.in_default.ensures.none

pub returns : goal.returns
returns c =
    let bytes = c.args.reply.now in
    let at = c.args.at in
    let line = c.in-Some.line.now in
    let after = c.in-Some.after.now in
    let code = c.code_len-code.result in
    let cut : drop at bytes ≡ with_crlf line ++ after =
    sym c.split_at.ensures.back ∙ c.in-Some.ensures.cut in
    let within = c.code_len-code.ensures.within in
    record {
      line = line;
      is_line = c.in-Some.ensures.is_line;
      cut = cut ∙ ap (λ rest. with_crlf line ++ rest) (after_is_drop bytes line at cut);
      text = text_placed bytes at line after code cut within ∙ c.code_len-code.ensures.text
          ∙ ap (λ coded. reply_text coded line) c.has_code.ensures;
      in_order = (
        omega arith,
        omega (
          arith,
          within,
          c.requires,
          ap length cut,
          length-drop at bytes,
          length-append (with_crlf line) after,
          length-append line crlf,
        ),
        omega arith,
      );
    }
