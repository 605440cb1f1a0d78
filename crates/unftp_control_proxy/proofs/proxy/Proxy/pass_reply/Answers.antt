use Rattle.std.proofs.Common.{inr, refl, rules, take}
use Rattle.unftp_control_read.specs.ReplyDecoding.{BeginsWithReply}
use Rattle.unftp_control_proxy.specs.ProxyCalls.{ReplyBytes, TakesReplyBytes}
use Rattle.unftp_control_proxy.proofs.CallLemmas.{takes_whole}
use Rattle.unftp_control_proxy.proofs.proxy.Proxy.pass_reply.Goals as goal

pub returns-then-not-owes_reply-clause-ok : goal.returns-then-not-owes_reply-clause-ok
returns-then-not-owes_reply-clause-ok c = (
  refl,
  search rules,
  record {
    none_due = c.requires;
    none_owed = search rules;
    begins = (c.in-Some.first.length, search rules);
  },
)

pub returns-then-is_err-clause-why : goal.returns-then-is_err-clause-why
returns-then-is_err-clause-why c = inr (
  c.in-Some.first.code,
  c.in-Some.first.length,
  (search rules, search rules),
  search rules,
)

pub returns-clause-ok : goal.returns-clause-ok
returns-clause-ok c =
    let first = c.in-Some.first in
    let server = c.args.self.now.server in
    let begins : BeginsWithReply server.limit server.bytes first.code first.length = search rules in
    let reply : ReplyBytes = record {
      code = first.code;
      lines = begins.lines;
      bytes = take first.length server.bytes;
    } in
    let takes : TakesReplyBytes server reply c.note_reply.new.self.server = record {
      used = first.length;
      front = begins.front;
      within = begins.within;
      bytes_are = refl;
      later_is = search rules;
    } in (
      reply,
      refl,
      search rules,
      record {
        owed = search rules;
        takes = takes;
        whole = takes_whole server reply c.note_reply.new.self.server takes;
        same_code = refl;
        later_is = search rules;
      },
    )
