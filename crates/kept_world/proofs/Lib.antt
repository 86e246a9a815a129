mod Alike
mod MailAlike
mod EndsAlike
mod NextAlike
mod AllowedAlike
mod WhatWorkersTake
