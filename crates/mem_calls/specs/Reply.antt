-- Replies that take no memory.
use Rattle.tree_laws.specs.declared.reply.Reply.{Reply}
use Rattle.tree_laws.specs.declared.reply.Reply.TheVariants as reply
use Rattle.mem_calls.specs.declared.short.Short.{Short}
use Rattle.mem_calls.specs.declared.short.Short.TheVariants as short

-- the reply that a short one is
abbrev pub reply_of : Short → Reply
reply_of short.Done = reply.Ok
reply_of (short.Node node kind) = reply.Node node kind
reply_of (short.Stat kind links size) = reply.Stat kind links size
reply_of (short.Error code) = reply.Error code
