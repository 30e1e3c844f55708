mod Answered
