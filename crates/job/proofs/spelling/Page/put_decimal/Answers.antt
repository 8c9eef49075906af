use Rattle.std.proofs.Common.{◌≡◌, sym, ◌∙◌, rules}
use Rattle.job.specs.Spelling.{decimal}
use Rattle.job.proofs.Written.{decimal_is}
use Rattle.job.proofs.spelling.Page.put_decimal.Goals as goal

pub put-requires : goal.put-requires
put-requires c =
    let d : c.as_bytes.result.now ≡ decimal c.args.x = c.as_bytes.ensures.value ∙ c.format.ensures.text ∙ sym (decimal_is c.args.x (search rules)) in
    rw d c.requires

pub returns : goal.returns
returns c =
    let d : c.as_bytes.result.now ≡ decimal c.args.x = c.as_bytes.ensures.value ∙ c.format.ensures.text ∙ sym (decimal_is c.args.x (search rules)) in
    rw d at c.put.ensures
