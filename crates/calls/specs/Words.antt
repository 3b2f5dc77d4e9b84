-- What ask and next reply, once the length of the slice and the mission are fine. Assumes nothing.
use Rattle.std.specs.Prelude.{Bool, cond}
use Rattle.model.specs.Rules.{Rule}
use Rattle.answers.specs.declared.cases.Refusal.TheVariants.{Name}
use Rattle.answers.specs.declared.replies.Reply.{Reply}
use Rattle.answers.specs.Replies.{refused_reply, reply_of}

-- what the walk says of a name (next: of a prefix), or 4 where it is none
abbrev pub word_reply : Bool → Rule → Reply
word_reply fine r = cond fine (reply_of r.done) (refused_reply Name)
