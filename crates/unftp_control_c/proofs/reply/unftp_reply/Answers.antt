use Rattle.std.proofs.Common.{refl, sym, ap, ◌∙◌, arith}
use Rattle.std.proofs.lemmas.Bool.{false≢true}
use Rattle.unftp_control_c.specs.Areas.{written}
use Rattle.unftp_control_c.proofs.ReplyLemmas.{made_reply, no_reply, one_reply, reads_back, several_reply}
use Rattle.unftp_control_c.proofs.ReplyRoomLemmas.{lines_room}
use Rattle.unftp_control_c.proofs.reply.unftp_reply.Goals as goal

pub returns-then-not-is_reply_code-clause-writes : goal.returns-then-not-is_reply_code-clause-writes
returns-then-not-is_reply_code-clause-writes c = c.write.ensures
    ∙ ap (λ bytes. written bytes c.args.out.now) (sym (no_reply c.args.code c.args.text.now
    (λ is_code. false≢true (c.if-not-is_reply_code.ensures.1 is_code))))

pub returns-then-not-is_reply_code-clause-read_back :
    goal.returns-then-not-is_reply_code-clause-read_back
returns-then-not-is_reply_code-clause-read_back c =
    reads_back c.args.code c.args.text.now c.args.out.now _
    (returns-then-not-is_reply_code-clause-writes c)

pub returns-then-is_one_line-clause-writes : goal.returns-then-is_one_line-clause-writes
returns-then-is_one_line-clause-writes c = c.write_line.ensures
    ∙ ap (λ bytes. written bytes c.args.out.now) (sym (made_reply c.args.code c.args.text.now
    (c.if-not-is_reply_code.ensures.0 refl)
    (one_reply c.args.code c.args.text.now (c.if-is_one_line.ensures.0 refl))))

pub returns-then-is_one_line-clause-read_back : goal.returns-then-is_one_line-clause-read_back
returns-then-is_one_line-clause-read_back c =
    reads_back c.args.code c.args.text.now c.args.out.now _
    (returns-then-is_one_line-clause-writes c)

pub write_fitting_lines-requires-clause-room : goal.write_fitting_lines-requires-clause-room
write_fitting_lines-requires-clause-room c = omega (
  arith,
  c.if-surely_fit.ensures.0 refl,
  lines_room c.args.code c.args.text.now (c.if-not-is_reply_code.ensures.0 refl)
      (λ one. false≢true (c.if-is_one_line.ensures.1 one)),
)

pub returns-then-surely_fit-clause-writes : goal.returns-then-surely_fit-clause-writes
returns-then-surely_fit-clause-writes c = c.write_fitting_lines.ensures
    ∙ ap (λ bytes. written bytes c.args.out.now) (sym (made_reply c.args.code c.args.text.now
    (c.if-not-is_reply_code.ensures.0 refl)
    (several_reply c.args.code c.args.text.now
    (λ one. false≢true (c.if-is_one_line.ensures.1 one)))))

pub returns-then-surely_fit-clause-read_back : goal.returns-then-surely_fit-clause-read_back
returns-then-surely_fit-clause-read_back c =
    reads_back c.args.code c.args.text.now c.args.out.now _
    (returns-then-surely_fit-clause-writes c)

pub returns-clause-writes : goal.returns-clause-writes
returns-clause-writes c = c.write_lines.ensures
    ∙ ap (λ bytes. written bytes c.args.out.now) (sym (made_reply c.args.code c.args.text.now
    (c.if-not-is_reply_code.ensures.0 refl)
    (several_reply c.args.code c.args.text.now
    (λ one. false≢true (c.if-is_one_line.ensures.1 one)))))

pub returns-clause-read_back : goal.returns-clause-read_back
returns-clause-read_back c = reads_back c.args.code c.args.text.now c.args.out.now _
    (returns-clause-writes c)
