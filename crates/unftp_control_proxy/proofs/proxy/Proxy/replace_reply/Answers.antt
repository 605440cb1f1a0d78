use Rattle.std.proofs.Common.{refl, rules, take}
use Rattle.unftp_control_read.specs.ReplyDecoding.{BeginsWithReply}
use Rattle.unftp_control_proxy.specs.ProxyAnswers.{IsReplyOf}
use Rattle.unftp_control_proxy.proofs.proxy.Proxy.replace_reply.Goals as goal

pub returns-then-not-owes_reply-clause-why : goal.returns-then-not-owes_reply-clause-why
returns-then-not-owes_reply-clause-why c =
    (search rules, (c.in-Ok-Some.first.code, c.in-Ok-Some.first.length, search rules))

pub returns-then-not-is_reply_of-clause-why : goal.returns-then-not-is_reply_of-clause-why
returns-then-not-is_reply_of-clause-why c = (
  c.in-Ok-Some.first.code,
  c.in-Ok-Some.first.length,
  (search rules, search rules),
  search rules,
)

pub returns-then-is_err-clause-why : goal.returns-then-is_err-clause-why
returns-then-is_err-clause-why c = (
  c.in-Ok-Some.first.code,
  c.in-Ok-Some.first.length,
  (search rules, search rules),
  search rules,
  search rules,
)

pub returns-clause-ok : goal.returns-clause-ok
returns-clause-ok c =
    let first = c.in-Ok-Some.first in
    let server = c.args.self.now.server in
    let begins : BeginsWithReply server.limit server.bytes first.code first.length = search rules in
    let whole : IsReplyOf first.code c.args.other.now = search rules in
    record {
      came = record {
        code = first.code;
        lines = begins.lines;
        bytes = take first.length server.bytes;
      };
      given = record { code = first.code; lines = whole.0; bytes = c.args.other.now };
      bytes = refl;
      appended = search rules;
      passes = record {
        owed = search rules;
        takes = record {
          used = first.length;
          front = begins.front;
          within = begins.within;
          bytes_are = refl;
          later_is = search rules;
        };
        whole = whole.1;
        same_code = refl;
        later_is = search rules;
      };
    }
