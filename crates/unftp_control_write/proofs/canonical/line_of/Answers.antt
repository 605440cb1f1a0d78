use Rattle.std.proofs.Common.{◌∙◌}
use Rattle.unftp_control_write.proofs.LineLemmas.{plain_line}
use Rattle.unftp_control_write.proofs.canonical.line_of.Goals as goal

pub returns-in_default-clause-line : goal.returns-in_default-clause-line
returns-in_default-clause-line c =
    plain_line _ _ c.line-in_default.result
    (record {
      no_type = c.in_default.not-TypeCode;
      no_list = c.in_default.not-List;
      no_allo = c.in_default.not-Allo;
      no_md5 = c.in_default.not-Md5;
      no_site = c.in_default.not-Site;
      no_other = c.in_default.not-Other;
    })
    c.name_and_value.ensures.typed
    (c.as_bytes-in_default.ensures.value ∙ c.name_and_value.ensures.name)
    c.name_and_value.ensures.value
    c.line-in_default.ensures
